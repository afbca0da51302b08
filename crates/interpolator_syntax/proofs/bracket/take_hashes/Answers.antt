use Rattle.std.proofs.{Common.arith, lemmas.Grind.common_steps}
use Rattle.interpolator_syntax.proofs.GroupLemmas.{signs_bytes}
use Rattle.interpolator_syntax.proofs.bracket.take_hashes.Goals as goal

pub returns-clause-count : goal.returns-clause-count
returns-clause-count c = grind (arith, common_steps, signs_bytes)
