use Rattle.interpolator_eval.proofs.MeaningLemmas.SampleLemmas.{at_no_level}
use Rattle.interpolator_eval.proofs.evaluate.sample.Items.of_list.Goals as goal

pub returns-clause-items : goal.returns-clause-items
returns-clause-items g c = rw (c.in-Some.is) (at_no_level _)
