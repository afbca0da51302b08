use Rattle.interpolator_syntax.specs.Arguments.{from_byte}
use Rattle.interpolator_syntax.proofs.ArgumentFaultLemmas.{fault_of_argument, fault_in_bytes}
use Rattle.interpolator_syntax.proofs.GrammarArgumentLemmas.{broken_is}
use Rattle.interpolator_syntax.proofs.ReaderLemmas.{argument_refuses, fault_from}
use Rattle.interpolator_syntax.proofs.laws.arguments.faults_of_arguments_lie_in_them.Goals as goal

pub returns-clause-kinds : goal.returns-clause-kinds
returns-clause-kinds c = λ a f e. fault_of_argument a f (broken_is a f e)

pub returns-clause-places : goal.returns-clause-places
returns-clause-places c = λ a f e. (fault_from a f e, argument_refuses a f e)

pub returns-clause-bytes : goal.returns-clause-bytes
returns-clause-bytes c = λ text start f u boundary e.
    (fault_from (from_byte text start) f e, fault_in_bytes text start f u boundary e)
