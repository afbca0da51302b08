use Rattle.std.proofs.Common.{◌≡◌, drop, length}
use Rattle.std.specs.Str.{chars}
use Rattle.folds.specs.Spellings.{left_at, spelled, spelling}
use Rattle.folds.proofs.spelling.place_of.Given as goal

abbrev pub invariant-loop-c : goal.invariant-loop-c
invariant-loop-c l =
    left_at l.byte (spelled l.at (drop (length l.yielded) (chars l.written))).meant
    ≡ left_at l.fn.byte (spelling l.written).meant
