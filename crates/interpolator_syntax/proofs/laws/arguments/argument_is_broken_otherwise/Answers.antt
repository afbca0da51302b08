use Rattle.interpolator_syntax.proofs.GrammarArgumentLemmas.{broken_is, only_broken}
use Rattle.interpolator_syntax.proofs.laws.arguments.argument_is_broken_otherwise.Goals as goal

pub returns : goal.returns
returns c = record { is = broken_is; only = only_broken }
