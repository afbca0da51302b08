use Rattle.interpolator_syntax.proofs.SplitLemmas.{no_two_literals}
use Rattle.interpolator_laws.proofs.templates.no_two_literals_are_neighbours.Goals as goal

pub returns : goal.returns
returns c = no_two_literals
