use Rattle.interpolator_syntax.proofs.GrammarGroupLemmas.{agrees_group}
use Rattle.interpolator_syntax.proofs.GrammarPartLemmas.{agrees_is_not}
use Rattle.interpolator_syntax.proofs.laws.groups.no_group_otherwise.Goals as goal

pub returns-clause-is : goal.returns-clause-is
returns-clause-is c = λ start. agrees_is_not (agrees_group start)

pub returns-clause-only : goal.returns-clause-only
returns-clause-only c = λ start. (agrees_group start).only_not
