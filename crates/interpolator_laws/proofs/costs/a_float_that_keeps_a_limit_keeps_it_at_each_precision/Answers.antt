use Rattle.interpolator_laws.proofs.FloatLengthLemmas.{finite_within, word_within}
use Rattle.interpolator_laws.proofs.costs.a_float_that_keeps_a_limit_keeps_it_at_each_precision.Goals as goal

pub returns-clause-finite : goal.returns-clause-finite
returns-clause-finite c = finite_within c.precise_digits.ensures.count

pub returns-clause-words : goal.returns-clause-words
returns-clause-words c = word_within
