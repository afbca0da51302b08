use Rattle.std.proofs.Common.{◌≡◌, ◌+◌, drop}
use Rattle.interpolator_prepared.specs.StoredSteps.{text_count}
use Rattle.interpolator_prepared.proofs.compile.text_count.Given as goal

-- the pieces so far are text, and the count goes on with those that are left
abbrev pub invariant-loop-piece : goal.invariant-loop-piece
invariant-loop-piece l =
    (l.count ≡ l.piece-index) × (l.count + text_count (drop l.piece-index l.pieces) ≡ text_count l.pieces)
