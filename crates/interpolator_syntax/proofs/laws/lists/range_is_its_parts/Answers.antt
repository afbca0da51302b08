use Rattle.interpolator_syntax.proofs.{GrammarListLemmas.law_range, GrammarPartLemmas.agrees_is}
use Rattle.interpolator_syntax.proofs.LocalLemmas.{still}
use Rattle.interpolator_syntax.proofs.laws.lists.range_is_its_parts.Goals as goal

pub returns-clause-is : goal.returns-clause-is
returns-clause-is c = λ start. agrees_is (law_range (still start)).agrees

pub returns-clause-only : goal.returns-clause-only
returns-clause-only c = λ start. (law_range (still start)).agrees.only
