use Rattle.std.proofs.{lemmas.Grind.common_steps, Common.arith}
use Rattle.interpolator_syntax.proofs.GroupLemmas.{signs_next, one_less}
use Rattle.interpolator_syntax.proofs.bracket.skip_hashes.Goals as goal

pub loop-preserved : goal.loop-preserved
loop-preserved c = grind (arith, common_steps, signs_next, one_less)
