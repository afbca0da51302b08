use Rattle.interpolator_pieces.specs.NodeCosts.{text_cost}
use Rattle.interpolator_pieces.proofs.CostLawLemmas.{text_at_most, reported_exactly}
use Rattle.interpolator_laws.proofs.costs.a_format_costs_no_more_than_it_is_said_to.Goals as goal

pub returns : goal.returns
returns g c = record {
  characters = λ limits e a h. (text_at_most g.V.Value.shows limits e a h).characters;
  pieces = λ limits e a h. (text_at_most g.V.Value.shows limits e a h).pieces;
  buffered = λ limits e a h. (text_at_most g.V.Value.shows limits e a h).buffered;
  reported =
      λ limits e a h less. reported_exactly _ (text_cost limits a).characters (text_at_most
      g.V.Value.shows limits e a h).characters less;
}
