use Rattle.interpolator_escapes.proofs.FaultLemmas.{record_fault}
use Rattle.interpolator_escapes.proofs.record_laws.records_make_no_fault.Goals as goal

pub returns : goal.returns
returns g c = λ e a. record_fault g.V.Value.shows e a
