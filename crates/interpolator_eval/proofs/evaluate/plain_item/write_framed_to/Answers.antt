use Rattle.std.proofs.Common.{rules}
use Rattle.interpolator_eval.proofs.MeaningLemmas.SinkLemmas.{and_then, fault_first}
use Rattle.interpolator_eval.proofs.evaluate.plain_item.write_framed_to.Goals as goal

pub returns-in_err-write_run_if-clause-outcome : goal.returns-in_err-write_run_if-clause-outcome
returns-in_err-write_run_if-clause-outcome g c = search (rules, fault_first)

pub returns-clause-outcome : goal.returns-clause-outcome
returns-clause-outcome g c = search (rules, and_then)
