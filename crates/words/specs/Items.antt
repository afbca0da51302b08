-- The items of a list word: what is between the commas of a text.
use Rattle.std.specs.Prelude.{◌==◌, ℕ, List, [], ◌∷◌, map}
use Rattle.std.specs.{Borrow.Bor, List.slice_split}

-- the sign `,`
abbrev pub comma : ℕ
comma = 44

-- a text split at its commas, and no item for the empty text
abbrev pub items_of : List ℕ → List (List ℕ)
items_of [] = []
items_of (c ∷ cs) = slice_split (λ sign. sign == comma) (c ∷ cs)

-- texts, borrows aside
abbrev pub texts_of : List (Bor (List ℕ)) → List (List ℕ)
texts_of texts = map (λ text. text.now) texts
