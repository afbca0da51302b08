use Rattle.std.proofs.Common.{◌≡◌, take}
use Rattle.interpolator_escapes.proofs.readers.html.names.is_word.Given as goal

-- the names are the same so far
abbrev pub invariant-loop-i : goal.invariant-loop-i
invariant-loop-i l = take l.i l.name ≡ take l.i l.word
