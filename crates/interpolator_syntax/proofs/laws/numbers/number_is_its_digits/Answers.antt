use Rattle.std.proofs.Common.{Ok}
use Rattle.interpolator_syntax.proofs.GrammarNumberLemmas.{decides_is, naturals_decide}
use Rattle.interpolator_syntax.proofs.laws.numbers.number_is_its_digits.Goals as goal

pub returns-clause-is : goal.returns-clause-is
returns-clause-is c = λ text n. decides_is naturals_decide text (Ok n)

pub returns-clause-only : goal.returns-clause-only
returns-clause-only c = λ text n. naturals_decide.only text (Ok n)
