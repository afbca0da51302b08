use Rattle.std.proofs.Common.{Some, chars, length}
use Rattle.interpolator_syntax.specs.Places.{at}
use Rattle.interpolator_syntax.specs.Groups.{ReachesNext}
use Rattle.interpolator_syntax.proofs.bracket.next_candidate.Given as goal

abbrev pub invariant-loop-next : goal.invariant-loop-next
invariant-loop-next l = ReachesNext l.count (at l.here) (Some (at l.bracket, at l.rest))

abbrev pub decreases-loop-next : goal.decreases-loop-next
decreases-loop-next l = length (chars l.rest.rest.now)
