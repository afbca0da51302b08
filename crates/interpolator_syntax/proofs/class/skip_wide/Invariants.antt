use Rattle.std.proofs.Common.{◌||◌, eqb, length}
use Rattle.interpolator_syntax.proofs.ByteLemmas.{SameFirst}
use Rattle.interpolator_syntax.proofs.class.skip_wide.Given as goal

abbrev pub invariant-loop-rest : goal.invariant-loop-rest
invariant-loop-rest l = SameFirst (λ b. eqb b l.first || eqb b l.second) l.bytes l.rest

abbrev pub decreases-loop-rest : goal.decreases-loop-rest
decreases-loop-rest l = length l.rest
