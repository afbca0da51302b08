-- A spec is its parts: a lemma a clause.
use Rattle.interpolator_syntax.proofs.{GrammarPartLemmas.agrees_is, GrammarSpecLemmas.law_spec}
use Rattle.interpolator_syntax.proofs.LocalLemmas.{still}
use Rattle.interpolator_syntax.proofs.laws.specs.spec_is_its_parts.Goals as goal

pub returns-clause-is : goal.returns-clause-is
returns-clause-is c = λ start. agrees_is (law_spec (still start)).agrees

pub returns-clause-only : goal.returns-clause-only
returns-clause-only c = λ start. (law_spec (still start)).agrees.only
