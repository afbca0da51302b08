use Rattle.std.proofs.lemmas.Result.{err_from_is_err_and}
use Rattle.interpolator_prepared.proofs.prepared.Prepared.write.Goals as goal

pub returns-in_err-write_named-clause-outcome : goal.returns-in_err-write_named-clause-outcome
returns-in_err-write_named-clause-outcome g c =
    let err = err_from_is_err_and c.from_residual.result c.from_residual.ensures.1 in
    rw (err.1, err.2) c.in_err-write_named.ensures.outcome

pub returns-clause-outcome : goal.returns-clause-outcome
returns-clause-outcome g c = c.in_ok-write_named.ensures.outcome
