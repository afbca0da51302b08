use Rattle.std.proofs.Common.{length, ◌-◌}
use Rattle.interpolator_eval.specs.NameNumbers.{is_of, HasPassed}
use Rattle.interpolator_eval.proofs.numbered.searched_place.Given as goal

abbrev pub invariant-loop-place : goal.invariant-loop-place
invariant-loop-place g l = HasPassed (is_of l.name) l.entries l.place

abbrev pub decreases-loop-place : goal.decreases-loop-place
decreases-loop-place g l = length l.entries - l.place
