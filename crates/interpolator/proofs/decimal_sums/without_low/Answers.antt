use Rattle.std.proofs.Common.{◌-ℤ◌, pos, arith}
use Rattle.std.proofs.lemmas.Int.{ints, to_z-of_z}
use Rattle.interpolator.proofs.DecimalSumLemmas.{next_times}
use Rattle.interpolator.proofs.decimal_sums.without_low.Goals as goal

pub returns-in_err-checked_mul : goal.returns-in_err-checked_mul
returns-in_err-checked_mul c = grind (
  arith,
  ints,
  to_z-of_z,
  c.from_residual.ensures,
  c.in_err-checked_mul.ensures,
  next_times (c.args.high -ℤ pos 1) c.args.high c.args.unit (omega (arith, ints)),
)

pub returns-then-high-gt0 : goal.returns-then-high-gt0
returns-then-high-gt0 c = grind (
  arith,
  ints,
  to_z-of_z,
  c.in_ok-checked_mul.ensures,
  c.checked_add.ensures,
  next_times (c.args.high -ℤ pos 1) c.args.high c.args.unit (omega (arith, ints)),
)
