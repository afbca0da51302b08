use Rattle.std.proofs.Common.{◌≤◌, ◌∷◌, ℕ, List, drop, length}
use Rattle.po.specs.{Marks.quote, Steps.Leads, Strings.ReadsByte}
use Rattle.po.proofs.place.place_in.Given as goal

abbrev pub invariant-loop-taken : goal.invariant-loop-taken
invariant-loop-taken l = (value rest : List ℕ)
    → Leads ReadsByte (drop l.start l.file) value (quote ∷ rest) → l.byte ≤ length value
    → Leads ReadsByte (drop l.place l.file) (drop l._taken value) (quote ∷ rest)
