use Rattle.interpolator_syntax.proofs.ArgumentFaultLemmas.{some_outcome, not_both, one_argument}
use Rattle.interpolator_syntax.proofs.ArgumentFaultLemmas.{one_fault}
use Rattle.interpolator_syntax.proofs.laws.arguments.one_outcome_of_an_argument.Goals as goal

pub returns : goal.returns
returns c =
    record { some = some_outcome; either = not_both; one = one_argument; one_fault = one_fault }
