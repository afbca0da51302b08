-- One line end at the end of a text.
use Rattle.std.specs.Prelude.{◌≡◌, ◌≢◌, ◌⊎◌, ℕ, List, [], ◌∷◌, ◌++◌}
use Rattle.records.specs.Marks.{carriage_return, line_feed}

-- a text does not end with this byte
abbrev pub NotLast : ℕ → List ℕ → Type 0
NotLast b text = (front : List ℕ) → text ≢ front ++ (b ∷ [])

-- a text is a rest and one line end after it
abbrev pub LosesLineEnd : (text rest : List ℕ) → Type 0
LosesLineEnd text rest = (text ≡ rest ++ (carriage_return ∷ line_feed ∷ []))
    ⊎ ((text ≡ rest ++ (line_feed ∷ [])) × NotLast carriage_return rest)
