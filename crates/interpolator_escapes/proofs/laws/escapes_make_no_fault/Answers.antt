use Rattle.interpolator_escapes.proofs.FaultLemmas.{escaped_fault}
use Rattle.interpolator_escapes.proofs.laws.escapes_make_no_fault.Goals as goal

pub returns : goal.returns
returns g c = λ escape e a. escaped_fault escape g.V.Value.shows e a
