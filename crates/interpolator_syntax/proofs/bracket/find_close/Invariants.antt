use Rattle.std.proofs.Common.{length, chars}
use Rattle.interpolator_syntax.specs.Places.{at}
use Rattle.interpolator_syntax.specs.Groups.{Reached}
use Rattle.interpolator_syntax.proofs.bracket.find_close.Given as goal

abbrev pub invariant-loop-close : goal.invariant-loop-close
invariant-loop-close l = Reached l.count (at l.start) (at l.here)

abbrev pub decreases-loop-close : goal.decreases-loop-close
decreases-loop-close l = length (chars l.here.rest.now)
