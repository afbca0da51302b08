use Rattle.interpolator.proofs.DecimalDigitLemmas.{count_after, front_over}
use Rattle.interpolator.proofs.decimal.count_of.Goals as goal

pub returns-in_err-whole : goal.returns-in_err-whole
returns-in_err-whole c =
    rw c.from_residual.ensures (front_over c.args.before.now c.args.after.now
    (rw c.as_bytes.ensures.value at c.in_err-whole.ensures))

pub returns : goal.returns
returns c =
    count_after c.args.before.now c.args.after.now c.in_ok-whole.whole c.with_digits-2.result
    (rw c.as_bytes.ensures.value at c.in_ok-whole.ensures.1)
    (rw c.as_bytes-2.ensures.value at c.with_digits-2.ensures)
