use Rattle.std.proofs.Common.{◌≡◌, ◌++◌, take}
use Rattle.interpolator_border.proofs.levels.put_known.Given as goal

-- those so far were appended
abbrev pub invariant-loop-slots : goal.invariant-loop-slots
invariant-loop-slots l = l.level.items ≡ l.initial.level.items ++ take l.slots-index l.rest
