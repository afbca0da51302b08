use Rattle.std.proofs.Common.{Err}
use Rattle.interpolator_syntax.proofs.GrammarNumberLemmas.{decides_is, naturals_decide}
use Rattle.interpolator_syntax.proofs.laws.numbers.number_is_refused_otherwise.Goals as goal

pub returns-clause-is : goal.returns-clause-is
returns-clause-is c = λ text kind. decides_is naturals_decide text (Err kind)

pub returns-clause-only : goal.returns-clause-only
returns-clause-only c = λ text kind. naturals_decide.only text (Err kind)
