use Rattle.std.proofs.lemmas.Result.{err_from_is_err_and}
use Rattle.interpolator_eval.proofs.MeaningLemmas.SinkLemmas.{and_then, fault_first}
use Rattle.interpolator_prepared.proofs.NumberRowLemmas.{row_utf8}
use Rattle.interpolator_prepared.proofs.items.put_next.Goals as goal

pub put_row-requires : goal.put_row-requires
put_row-requires g c =
    let digits = c.in-Some.ensures.both.1 in
    record { fits = digits.fits; utf8 = row_utf8 _ _ _ _ _ digits }

pub returns-in_err-put_joined-clause-outcome : goal.returns-in_err-put_joined-clause-outcome
returns-in_err-put_joined-clause-outcome g c =
    let err = err_from_is_err_and c.from_residual.result c.from_residual.ensures.1 in
    rw (err.1, err.2) (fault_first _ _ _ _ _ c.in_err-put_joined.ensures.outcome)

pub returns-clause-outcome : goal.returns-clause-outcome
returns-clause-outcome g c =
    and_then _ _ _ _ _ _ c.in_ok-put_joined.ensures.outcome c.put_item.ensures.outcome
