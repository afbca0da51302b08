use Rattle.std.proofs.Common.{length}
use Rattle.std.specs.Str.Iter.{chars_rest}
use Rattle.interpolator.proofs.PositionLemmas.{Read, BegunAfter}
use Rattle.interpolator.proofs.position.text_before.Given as goal

abbrev pub invariant-loop-c : goal.invariant-loop-c
invariant-loop-c l = record {
  read : Read l.text (chars_rest l.c-iterator) (length l.yielded) l.end;
  begun : BegunAfter l.text (length l.yielded) l.end l.place;
}
