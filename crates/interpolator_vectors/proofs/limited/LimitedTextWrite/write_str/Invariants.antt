use Rattle.std.specs.Str.Iter.{chars_rest}
use Rattle.interpolator_vectors.proofs.LimitLemmas.{Taken}
use Rattle.interpolator_vectors.proofs.limited.LimitedTextWrite.write_str.Given as goal

abbrev pub invariant-loop-c : goal.invariant-loop-c
invariant-loop-c l = Taken l.initial.self l.text (chars_rest l.c-iterator) l.taken l.self
