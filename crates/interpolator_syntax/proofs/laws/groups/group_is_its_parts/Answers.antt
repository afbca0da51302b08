use Rattle.interpolator_syntax.proofs.GrammarGroupLemmas.{agrees_group, one_group}
use Rattle.interpolator_syntax.proofs.GrammarPartLemmas.{agrees_is}
use Rattle.interpolator_syntax.proofs.laws.groups.group_is_its_parts.Goals as goal

pub returns-clause-is : goal.returns-clause-is
returns-clause-is c = λ start. agrees_is (agrees_group start)

pub returns-clause-only : goal.returns-clause-only
returns-clause-only c = λ start. (agrees_group start).only

pub returns-clause-one : goal.returns-clause-one
returns-clause-one c = one_group
