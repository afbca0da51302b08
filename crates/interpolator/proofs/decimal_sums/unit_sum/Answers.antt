use Rattle.std.proofs.Common.{◌+ℤ◌, arith}
use Rattle.std.proofs.lemmas.Int.{ints, to_z-of_z}
use Rattle.std.specs.Int.{int_div_euclid, int_rem_euclid}
use Rattle.interpolator.proofs.DecimalSumLemmas.{euclid, sum_out, times_sum}
use Rattle.interpolator.proofs.decimal_sums.unit_sum.Goals as goal

pub returns-in_err-whole : goal.returns-in_err-whole
returns-in_err-whole c = grind (
  arith,
  ints,
  to_z-of_z,
  c.from_residual.ensures,
  c.in_err-whole.ensures,
  c.div_euclid.ensures,
  euclid c.args.low c.args.unit c.requires,
  times_sum c.args.high (int_div_euclid c.args.low c.args.unit) c.args.unit,
  sum_out (c.args.high +ℤ int_div_euclid c.args.low c.args.unit) c.args.unit
      (int_rem_euclid c.args.low c.args.unit),
)

pub returns : goal.returns
returns c = grind (
  arith,
  ints,
  to_z-of_z,
  c.in_ok-whole.ensures,
  c.div_euclid.ensures,
  c.rem_euclid.ensures.value,
  c.with_low.ensures,
  euclid c.args.low c.args.unit c.requires,
  times_sum c.args.high (int_div_euclid c.args.low c.args.unit) c.args.unit,
)
