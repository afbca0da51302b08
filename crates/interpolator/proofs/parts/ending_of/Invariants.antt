use Rattle.std.proofs.Common.{◌≡◌, length}
use Rattle.interpolator_syntax.specs.{Places.at, Pieces.pieces}
use Rattle.interpolator.specs.Seams.{ending, last_ending}
use Rattle.interpolator.proofs.parts.ending_of.Given as goal

-- how the rest ends, after what was read, is how the whole text ends
abbrev pub invariant-loop-token : goal.invariant-loop-token
invariant-loop-token l = last_ending l.ending (pieces (at l.here)) ≡ ending (at l.fn.text)

abbrev pub decreases-loop-token : goal.decreases-loop-token
decreases-loop-token l = length (pieces (at l.here))
