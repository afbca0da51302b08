use Rattle.interpolator_laws.proofs.CheckLawLemmas.{value_missed}
use Rattle.interpolator_laws.proofs.checks.a_missing_value_is_an_asked_name.Goals as goal

pub returns : goal.returns
returns g c = value_missed g.V.Value.shows
