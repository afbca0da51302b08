use Rattle.interpolator_escapes.proofs.ControlLemmas.{line_stays}
use Rattle.interpolator_escapes.proofs.laws.a_line_stays_a_line.Goals as goal

pub returns : goal.returns
returns g c = line_stays g.V.Value.shows
