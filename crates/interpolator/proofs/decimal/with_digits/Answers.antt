use Rattle.std.proofs.{Common.arith, lemmas.Str.Parse.digit_at}
use Rattle.interpolator.proofs.DecimalDigitLemmas.{loop_end, loop_over}
use Rattle.interpolator.proofs.decimal.with_digits.Goals as goal

pub with_digit-requires : goal.with_digit-requires
with_digit-requires c =
    digit_at c.args.digits.now c.loop-digit.digit-index c.requires c.loop-digit-test.true

pub returns-in_err-total : goal.returns-in_err-total
returns-in_err-total c =
    rw c.from_residual.ensures
    (loop_over c.loop-digit.total c.args.number c.args.digits.now c.loop-digit.digit-index
    c.loop-digit-test.true c.loop-digit.invariant.value c.in_err-total.ensures)

pub returns : goal.returns
returns c =
    loop_end c.loop-digit.total c.args.number c.args.digits.now c.loop-digit.digit-index
    (omega arith) c.loop-digit.invariant.fits c.loop-digit.invariant.value
