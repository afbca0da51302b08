use Rattle.std.proofs.Common.{◌≤◌}
use Rattle.std.specs.Str.Iter.{chars_rest}
use Rattle.interpolator.proofs.PositionLemmas.{Read}
use Rattle.interpolator.proofs.excerpt.split_after.Given as goal

abbrev pub invariant-loop-c : goal.invariant-loop-c
invariant-loop-c l =
    record { read : Read l.text (chars_rest l.c-iterator) l.seen l.end; within : l.seen ≤ l.count }
