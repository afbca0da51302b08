use Rattle.interpolator_laws.proofs.CheckLawLemmas.{fault_among, no_own_fault}
use Rattle.interpolator_laws.proofs.checks.a_format_that_checks_has_no_fault_of_its_own.Goals as goal

pub returns : goal.returns
returns g c = record { among = fault_among g.V.Value.shows; none = no_own_fault g.V.Value.shows }
