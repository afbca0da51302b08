use Rattle.std.proofs.Common.{◌≤◌}
use Rattle.interpolator_escapes.specs.Search.{ArePlain, most_plain}
use Rattle.interpolator_escapes.proofs.search.are_surely_plain.Given as goal

abbrev pub invariant-loop-byte : goal.invariant-loop-byte
invariant-loop-byte l = l.most ≤ most_plain l.escape → ArePlain l.escape l.bytes l.byte-index
