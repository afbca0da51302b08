use Rattle.interpolator_eval.proofs.MeaningLemmas.SampleLemmas.{at_no_level}
use Rattle.interpolator_eval.proofs.evaluate.sample.Items.any_lacks.Goals as goal

pub returns-then-self-eq0 : goal.returns-then-self-eq0
returns-then-self-eq0 g c = rw (c.if-self-eq0.true, at_no_level) c.any_lacks.ensures
