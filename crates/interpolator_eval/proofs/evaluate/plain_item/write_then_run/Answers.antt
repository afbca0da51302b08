use Rattle.std.proofs.Common.{rules}
use Rattle.interpolator_eval.proofs.MeaningLemmas.SinkLemmas.{and_then, fault_first}
use Rattle.interpolator_eval.proofs.evaluate.plain_item.write_then_run.Goals as goal

pub returns-in_err-write_plain-clause-outcome : goal.returns-in_err-write_plain-clause-outcome
returns-in_err-write_plain-clause-outcome g c = search (rules, fault_first)

pub returns-clause-outcome : goal.returns-clause-outcome
returns-clause-outcome g c = search (rules, and_then)
