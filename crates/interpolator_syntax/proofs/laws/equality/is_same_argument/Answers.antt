use Rattle.std.proofs.{Common.arith, lemmas.Grind.common_steps}
use Rattle.interpolator_syntax.proofs.EqualityLemmas.{arguments_decide}
use Rattle.interpolator_syntax.proofs.laws.equality.is_same_argument.Goals as goal

pub returns : goal.returns
returns c = grind (arith, common_steps, arguments_decide)
