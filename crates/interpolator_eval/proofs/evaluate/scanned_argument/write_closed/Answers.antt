use Rattle.std.proofs.lemmas.Result.{err_from_is_err_and}
use Rattle.interpolator_syntax.specs.Arguments.{list_of}
use Rattle.interpolator_eval.proofs.MeaningLemmas.{LookUpLemmas.value_asked, ScanLemmas.brace_fault}
use Rattle.interpolator_eval.proofs.evaluate.scanned_argument.write_closed.Goals as goal

pub returns-in_err-write_value-clause-outcome : goal.returns-in_err-write_value-clause-outcome
returns-in_err-write_value-clause-outcome g c =
    let asked = c.args.asked.now in
    let value = value_asked asked.slot (list_of asked.list) c.requires.value in
    let err = err_from_is_err_and c.from_residual.result c.from_residual.ensures.1 in
    rw (err.1, err.2, value)
    (brace_fault _ _ _ _ _ _ c.in_err-write_value.ensures.outcome)
