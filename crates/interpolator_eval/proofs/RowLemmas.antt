-- A list that is cut into rows.
use Rattle.std.proofs.Common.{arith, ◌≡◌, ℕ, ◌-◌, List, map, take, drop, min, length}
use Rattle.std.proofs.lemmas.List.{take_min, drop_min, drop-map, take-map, take_rest}

-- a slice that is cut at the end of its list is the same as one of the list itself
pub cut_row : {A B : Type 0} (f : A → B) (xs : List A) (from to a b : ℕ) → a ≡ min to (length xs)
    → b ≡ min from (length (take a xs))
    → map f (take (length (take a xs) - b) (drop b (take a xs))) ≡ drop from (take to (map f xs))
cut_row f xs from to a b p q =
    grind (arith, take_rest (take a xs), drop_min, take_min, drop-map, take-map)
