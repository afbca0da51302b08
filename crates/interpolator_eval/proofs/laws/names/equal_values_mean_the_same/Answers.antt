use Rattle.interpolator_eval.proofs.MeaningLemmas.EqualLemmas.{means_equal, outcomes_equal}
use Rattle.interpolator_eval.proofs.laws.names.equal_values_mean_the_same.Goals as goal

pub returns-clause-meaning : goal.returns-clause-meaning
returns-clause-meaning g c = means_equal g.V.Value.shows g.W.Value.shows

pub returns-clause-outcome : goal.returns-clause-outcome
returns-clause-outcome g c = outcomes_equal g.V.Value.shows g.W.Value.shows
