-- What is read piece by piece.
use Rattle.std.proofs.Common.{List, [], ◌∷◌, ◌++◌, refl}
use Rattle.po.specs.Steps.{Leads}

-- one more is read
pub one_more : {A X : Type 0} (reads : A → X → A → Type 0) (from : A) (xs : List X) (mid : A) (x : X)
    (to : A) → Leads reads from xs mid → reads mid x to → Leads reads from (xs ++ (x ∷ [])) to
one_more reads from [] mid x to e step = (to, rw e step, refl)
one_more reads from (y ∷ ys) mid x to (next, first, rest) step =
    (next, first, one_more reads next ys mid x to rest step)
