use Rattle.std.proofs.Common.{Ok}
use Rattle.interpolator_syntax.proofs.GrammarNumberLemmas.{decides_is, integers_decide}
use Rattle.interpolator_syntax.proofs.laws.numbers.integer_is_its_sign_and_digits.Goals as goal

pub returns-clause-is : goal.returns-clause-is
returns-clause-is c = λ text z. decides_is integers_decide text (Ok z)

pub returns-clause-only : goal.returns-clause-only
returns-clause-only c = λ text z. integers_decide.only text (Ok z)
