use Rattle.interpolator_pieces.proofs.RangeLemmas.{chosen_fewer}
use Rattle.interpolator_laws.proofs.costs.a_range_chooses_no_more_than_is_said_of_it.Goals as goal

pub returns : goal.returns
returns g c = chosen_fewer
