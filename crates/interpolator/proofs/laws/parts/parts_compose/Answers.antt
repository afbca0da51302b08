use Rattle.interpolator.proofs.PartLemmas.{parts_are_one}
use Rattle.interpolator.proofs.laws.parts.parts_compose.Goals as goal

pub returns : goal.returns
returns g c =
    record { compose = λ e parts clean close. parts_are_one g.V.Value.shows e parts clean close }
