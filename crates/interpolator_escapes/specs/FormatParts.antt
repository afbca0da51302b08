-- What a format without a fault means, in parts: literals, and what its values show.
use Rattle.std.specs.Prelude.{ℕ, ◌-◌, is_some, if◌then◌else◌, length, replicate, List, [], ◌∷◌}
use Rattle.std.specs.Prelude.{◌++◌, Option, Some, None}
use Rattle.std.specs.Float.{float_is_finite}
use Rattle.interpolator_render.specs.declared.view.Trait.TheVariants.{Debug, Display}
use Rattle.interpolator_render.specs.Padding.{fill_of, fill_before, missing_to}
use Rattle.interpolator_render.specs.Texts.{ViewText, has_text, has_no_text, has_failed, view_text}
use Rattle.interpolator_render.specs.Views.{Shown, some_text, plain_text, one_character}
use Rattle.interpolator_render.specs.Views.{float_number}
use Rattle.interpolator_render.specs.{declared.view.Trait.Trait, declared.view.Spec.Spec}
use Rattle.interpolator_syntax.specs.Nodes.{Node, node, Branch, no_branch, branch, as_forest}
use Rattle.interpolator_syntax.specs.Nodes.{Forest, no_nodes, nodes_and, nodes, Content}
use Rattle.interpolator_syntax.specs.Nodes.{text_content, argument_content, fault_content, Target}
use Rattle.interpolator_syntax.specs.Nodes.{target_value, target_list}
use Rattle.interpolator_syntax.specs.{Places.At, SpecTexts.plain_spec}
use Rattle.interpolator_eval.specs.Slots.{Slots, values_of, items, slot_at}
use Rattle.interpolator_eval.specs.Meaning.Choices.{chosen_items}
use Rattle.interpolator_eval.specs.Meaning.Environments.{Environment, slots_under, bind}
use Rattle.interpolator_escapes.specs.Parts.{Part, literal, value, assembled}
use Rattle.interpolator_escapes.specs.Wholes.{is_whole, json_null}
use Rattle.interpolator_escapes.specs.{Escapes.escape_of, declared.escape.Escape.Escape}

-- a character as it is
abbrev pub as_it_is : ℕ → List ℕ
as_it_is c = c ∷ []

-- what a value shows, cut and padded
abbrev pub view_parts : ViewText → List Part
view_parts (has_text cs) = value cs ∷ []
view_parts has_no_text = []
view_parts has_failed = []

-- the parts of what is written whole: quotes are literals
abbrev pub string_parts : List ℕ → List Part
string_parts text = literal (34 ∷ []) ∷ value text ∷ literal (34 ∷ []) ∷ []

abbrev pub whole_parts : Shown → Spec → List Part
whole_parts (some_text text) spec = string_parts text
whole_parts (plain_text text) spec = string_parts text
whole_parts (one_character c) spec = string_parts (c ∷ [])
whole_parts (float_number format x) spec =
    if float_is_finite x then view_parts (view_text (float_number format x) Debug spec)
    else value json_null ∷ []
whole_parts shown spec = view_parts (view_text shown Debug spec)

-- the parts of what a value shows, and of what is written of it
abbrev pub plain_value : {X : Type 0} → (shows : X → Trait → Spec → Shown) → X → Trait → Spec
    → List Part
plain_value shows x t spec = view_parts (view_text (shows x t spec) t spec)

abbrev pub escaped_value : {X : Type 0} → Escape → (shows : X → Trait → Spec → Shown) → X → Trait
    → Spec → List Part
escaped_value escape shows x t spec =
    if is_whole escape t then whole_parts (shows x t spec) spec
    else view_parts (view_text (shows x t spec) t spec)

-- the parts of what was found
abbrev pub found_parts : {A : Type 0} → (A → List Part) → Option A → List Part
found_parts parts None = []
found_parts parts (Some found) = parts found

-- the items in order, each with the join before it
abbrev pub parts_after : {A : Type 0} → (join : List Part) → (A → List Part) → List A → List Part
parts_after join item [] = []
parts_after join item (x ∷ xs) = join ++ (item x ++ parts_after join item xs)

-- the items in order, with the join between two of them
abbrev pub items_parts : {A : Type 0} → (join : List Part) → (A → List Part) → List A → List Part
items_parts join item [] = []
items_parts join item (x ∷ xs) = item x ++ parts_after join item xs

module _ (escape : ℕ → List ℕ) where
  -- a list under a width, between literals that pad it: the width counts what is written
  abbrev pub padded_parts : Spec → List Part → List Part
  padded_parts spec parts =
      let missing = missing_to spec (length (assembled escape parts)) in
      let before = fill_before spec.alignment missing 0 in
      literal (replicate before (fill_of spec))
      ∷ (parts ++ literal (replicate (missing - before) (fill_of spec)) ∷ [])

  -- a list
  abbrev pub list_parts : Spec → List Part → List Part
  list_parts spec parts = if is_some spec.width then padded_parts spec parts else parts

  -- by the parts of what a value shows
  module _ {X : Type 0} (of_value : X → Trait → Spec → List Part) where
    -- a value
    abbrev pub value_parts : Trait → Spec → Option X → List Part
    value_parts t spec slot = found_parts (λ x. of_value x t spec) slot

    -- what was found under a name, as a value or a list, by the parts of the join and of an item
    abbrev pub target_parts : Target → Spec → (join : List Part) → (Slots X → List Part) → Slots X
        → List Part
    target_parts (target_value t) spec join item found =
        value_parts t spec (slot_at t (values_of found))
    target_parts (target_list range) spec join item found =
        found_parts (λ xs. list_parts spec (items_parts join item (chosen_items range xs)))
        (items found)

    -- text is a literal
    abbrev pub content_parts : Environment X → Content → (join : List Part) → (Slots X → List Part)
        → List Part
    content_parts e (text_content from cs) join item = literal cs ∷ []
    content_parts e (argument_content start name spec target end) join item =
        found_parts (target_parts target spec join item) (slots_under e name)
    content_parts e (fault_content f) join item = []

    abbrev mutual
      -- a piece
      pub node_parts : Environment X → Node → List Part
      node_parts e (node place end kind None item join) = []
      node_parts e (node place end kind (Some content) item join) =
          content_parts e content (join_parts e join) (item_parts e item)

      -- what comes between two items
      pub join_parts : Environment X → Branch → List Part
      join_parts e no_branch = []
      join_parts e (branch xs) = forest_parts e xs

      -- an item
      pub item_parts : Environment X → Branch → Slots X → List Part
      item_parts e no_branch =
          λ item. value_parts Display plain_spec (slot_at Display (values_of item))
      item_parts e (branch xs) = λ item. forest_parts (bind e item) xs

      -- pieces, one after the other
      pub forest_parts : Environment X → Forest → List Part
      forest_parts e no_nodes = []
      forest_parts e (nodes_and x xs) = node_parts e x ++ forest_parts e xs

    -- a text
    abbrev pub parts_of : Environment X → At → List Part
    parts_of e a = forest_parts e (as_forest (nodes a))

-- of a text whose values are escaped
abbrev pub parts_by : {X : Type 0} → Escape → (shows : X → Trait → Spec → Shown) → Environment X
    → At → List Part
parts_by escape shows e a = parts_of (escape_of escape) (escaped_value escape shows) e a
