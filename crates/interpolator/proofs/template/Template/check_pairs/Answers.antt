use Rattle.std.proofs.{Common.inr, lemmas.Result.err_from_is_err_and}
use Rattle.interpolator.proofs.template.Template.check_pairs.Goals as goal

pub returns-in_err-check_template-clause-refused :
    goal.returns-in_err-check_template-clause-refused
returns-in_err-check_template-clause-refused g c =
    let residual = c.from_residual-in_err-check_template in
    let err = err_from_is_err_and residual.result residual.ensures.1 in
    rw (err.1, err.2) (inr (rw (c.in_ok-map.ensures.map) at c.in_err-check_template.ensures.first))

pub returns-clause-faultless : goal.returns-clause-faultless
returns-clause-faultless g c =
    rw (c.in_ok-map.ensures.map) at c.in_ok-check_template.ensures.first
