use Rattle.std.proofs.Common.{◌≡◌, length}
use Rattle.interpolator_border.proofs.levels.put_nothing.Given as goal

-- so many were appended
abbrev pub invariant-loop : goal.invariant-loop
invariant-loop l = length l.level.items ≡ l.counter
