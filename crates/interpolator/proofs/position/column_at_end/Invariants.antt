use Rattle.std.proofs.Common.{◌≡◌, ◌+◌, length}
use Rattle.interpolator.specs.Positions.{last_line}
use Rattle.interpolator.proofs.position.column_at_end.Given as goal

abbrev pub invariant-loop-c : goal.invariant-loop-c
invariant-loop-c l = l.column ≡ length (last_line l.yielded) + 1
