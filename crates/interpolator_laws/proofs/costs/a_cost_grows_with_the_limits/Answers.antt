use Rattle.interpolator_pieces.proofs.CostLawLemmas.{text_le}
use Rattle.interpolator_laws.proofs.costs.a_cost_grows_with_the_limits.Goals as goal

pub returns-clause-characters : goal.returns-clause-characters
returns-clause-characters c = λ few many a text more. (text_le few many text more a).characters

pub returns-clause-pieces : goal.returns-clause-pieces
returns-clause-pieces c = λ few many a text more. (text_le few many text more a).pieces

pub returns-clause-buffered : goal.returns-clause-buffered
returns-clause-buffered c = λ few many a text more. (text_le few many text more a).buffered
