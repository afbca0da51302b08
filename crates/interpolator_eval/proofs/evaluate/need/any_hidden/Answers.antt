use Rattle.interpolator_eval.proofs.MeaningLemmas.SampleLemmas.{at_no_level}
use Rattle.interpolator_eval.proofs.evaluate.need.any_hidden.Goals as goal

pub returns-in_default : goal.returns-in_default
returns-in_default g c = rw at_no_level at c.lacks_below.ensures
