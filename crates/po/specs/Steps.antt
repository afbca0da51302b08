-- What is read piece by piece.
use Rattle.std.specs.Prelude.{◌≡◌, List, [], ◌∷◌}

-- from one place to another, these are read, one after the other
abbrev pub Leads : {A X : Type 0} → (A → X → A → Type 0) → (from : A) → List X → (to : A) → Type 0
Leads reads from [] to = from ≡ to
Leads {A = A} reads from (x ∷ xs) to = (next : A) × reads from x next × Leads reads next xs to
