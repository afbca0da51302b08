use Rattle.std.proofs.Common.{Err}
use Rattle.interpolator_syntax.proofs.GrammarNumberLemmas.{decides_is, integers_decide}
use Rattle.interpolator_syntax.proofs.laws.numbers.integer_is_refused_otherwise.Goals as goal

pub returns-clause-is : goal.returns-clause-is
returns-clause-is c = λ text kind. decides_is integers_decide text (Err kind)

pub returns-clause-only : goal.returns-clause-only
returns-clause-only c = λ text kind. integers_decide.only text (Err kind)
