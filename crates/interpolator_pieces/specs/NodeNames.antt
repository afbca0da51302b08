-- The names that a walk over the pieces of a format gathers.
use Rattle.std.specs.Prelude.{List, [], ◌∷◌, ℕ, Option, Some, None, map, string_bytes}
use Rattle.std.specs.{Str.chars, declared.string.String.String}
use Rattle.interpolator_syntax.specs.Nodes.{node}
use Rattle.interpolator_eval.specs.Meaning.AskedNames.{content_names}
use Rattle.interpolator_pieces.specs.Visits.{Visit, enter, leave}

-- the name that a piece uses, which is met when it is entered
abbrev pub visit_asks : Visit → List (List ℕ)
visit_asks (enter level (node place end kind content item join)) =
    content_names level.in_item content
visit_asks (leave level x) = []

-- at most one name, as a list
abbrev pub name_list : Option (List ℕ) → List (List ℕ)
name_list None = []
name_list (Some name) = name ∷ []

-- the names that the code has, in characters
abbrev pub name_texts : {Z : Type 0} → List (String Z) → List (List ℕ)
name_texts names = map (λ name. chars (string_bytes name)) names
