-- A piece by the reader of arguments is the piece by their relation, field by field.
use Rattle.std.proofs.Common.{arith}
use Rattle.interpolator_syntax.proofs.GrammarArgumentLemmas.{argument_is, only_argument, broken_is}
use Rattle.interpolator_syntax.proofs.GrammarArgumentLemmas.{only_broken}
use Rattle.interpolator_syntax.proofs.ScanLemmas.{hands_on, hands_nothing}
use Rattle.interpolator_syntax.proofs.laws.pieces.pieces_stand_by_the_grammar.Goals as goal

pub returns-clause-closed : goal.returns-clause-closed
returns-clause-closed c = λ p start end x text rest. (
  λ h. grind (arith, argument_is _ _ x h.reads),
  λ h. grind (arith, only_argument _ _ x h.stands),
)

pub returns-clause-unclosed : goal.returns-clause-unclosed
returns-clause-unclosed c = λ p start end x text rest. (
  λ h. grind (arith, argument_is _ _ x h.reads),
  λ h. grind (arith, only_argument _ _ x h.stands),
)

pub returns-clause-broken : goal.returns-clause-broken
returns-clause-broken c = λ p f text rest.
    (λ h. grind (arith, broken_is _ f h.reads), λ h. grind (arith, only_broken _ f h.refused))

pub returns-clause-runs : goal.returns-clause-runs
returns-clause-runs c = λ a b t. hands_on a t b

pub returns-clause-end : goal.returns-clause-end
returns-clause-end c = hands_nothing
