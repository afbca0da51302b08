-- A list that is cut into rows.
use Rattle.std.specs.Prelude.{ℕ, List, [], ◌∷◌, drop, take}

-- the parts of a list up to each of these ends: the first begins at `from`, and each other at the
-- end before it
abbrev pub parts_to : {A : Type 0} → List A → ℕ → List ℕ → List (List A)
parts_to items from [] = []
parts_to items from (end ∷ ends) = drop from (take end items) ∷ parts_to items end ends
