use Rattle.interpolator.proofs.PartLemmas.{faultless_closes}
use Rattle.interpolator.proofs.laws.parts.faultless_text_closes.Goals as goal

pub returns : goal.returns
returns g c = record { closes = λ e a h. faultless_closes g.V.Value.shows e a h }
