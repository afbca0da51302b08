-- The first of some things of which something does not hold.
use Rattle.std.specs.Prelude.{◌≡◌, ◌⊎◌, List, [], ◌∷◌}

-- the first of these of which P does not hold: P holds of all before it
abbrev pub IsFirstWithout : {A : Type 0} → (P : A → Type 0) → List A → A → Type 0
IsFirstWithout P [] first = ⊥
IsFirstWithout P (x ∷ xs) first = ((first ≡ x) × (¬ P first)) ⊎ (P x × IsFirstWithout P xs first)
