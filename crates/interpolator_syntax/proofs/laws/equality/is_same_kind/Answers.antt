use Rattle.std.proofs.{Common.arith, lemmas.Grind.common_steps}
use Rattle.interpolator_syntax.proofs.EqualityLemmas.{kinds_decide}
use Rattle.interpolator_syntax.proofs.laws.equality.is_same_kind.Goals as goal

pub returns : goal.returns
returns c = grind (arith, common_steps, kinds_decide)
