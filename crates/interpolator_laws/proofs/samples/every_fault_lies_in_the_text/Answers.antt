use Rattle.interpolator.proofs.SamplePlaceLemmas.{all_lie_over}
use Rattle.interpolator_laws.proofs.samples.every_fault_lies_in_the_text.Goals as goal

pub returns : goal.returns
returns g c finds = all_lie_over g.V.Value.shows finds c.args._text.now c.utf8._text
