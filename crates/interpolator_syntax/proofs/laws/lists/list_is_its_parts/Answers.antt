use Rattle.interpolator_syntax.proofs.{GrammarListLemmas.law_list, GrammarPartLemmas.agrees_is}
use Rattle.interpolator_syntax.proofs.LocalLemmas.{still}
use Rattle.interpolator_syntax.proofs.laws.lists.list_is_its_parts.Goals as goal

pub returns-clause-is : goal.returns-clause-is
returns-clause-is c = λ start. agrees_is (law_list (still start)).agrees

pub returns-clause-only : goal.returns-clause-only
returns-clause-only c = λ start. (law_list (still start)).agrees.only
