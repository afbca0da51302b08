-- A text is no spec if no parts make it one: a lemma a clause.
use Rattle.interpolator_syntax.proofs.{GrammarPartLemmas.agrees_is_not, GrammarSpecLemmas.law_spec}
use Rattle.interpolator_syntax.proofs.LocalLemmas.{still}
use Rattle.interpolator_syntax.proofs.laws.specs.spec_is_refused_otherwise.Goals as goal

pub returns-clause-is : goal.returns-clause-is
returns-clause-is c = λ start. agrees_is_not (law_spec (still start)).agrees

pub returns-clause-only : goal.returns-clause-only
returns-clause-only c = λ start. (law_spec (still start)).agrees.only_not
