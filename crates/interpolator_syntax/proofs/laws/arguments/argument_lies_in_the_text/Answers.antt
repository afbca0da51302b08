use Rattle.interpolator_syntax.proofs.GrammarArgumentLemmas.{argument_is, only_argument}
use Rattle.interpolator_syntax.proofs.laws.arguments.argument_lies_in_the_text.Goals as goal

pub returns : goal.returns
returns c = record { is = argument_is; only = only_argument }
