use Rattle.std.proofs.Common.{◌≡◌, ◌-ℤ◌, ◌*ℤ◌, arith}
use Rattle.std.proofs.lemmas.Int.{ints, to_z-of_z}
use Rattle.std.specs.Int.{int_div_euclid, int_rem_euclid}
use Rattle.interpolator.proofs.DecimalSumLemmas.{euclid, difference_out, times_difference}
use Rattle.interpolator.proofs.decimal_sums.unit_difference.Goals as goal

pub returns-in_err-whole : goal.returns-in_err-whole
returns-in_err-whole c = grind (
  arith,
  ints,
  to_z-of_z,
  c.from_residual.ensures,
  c.in_err-whole.ensures,
  c.div_euclid.ensures,
  euclid c.args.low c.args.unit c.requires,
  times_difference c.args.high (int_div_euclid c.args.low c.args.unit) c.args.unit,
  difference_out (c.args.high -ℤ int_div_euclid c.args.low c.args.unit) c.args.unit
      (int_rem_euclid c.args.low c.args.unit),
)

pub returns : goal.returns
returns c =
    let h = c.args.high in
    let u = c.args.unit in
    let q = int_div_euclid c.args.low u in
    let r = int_rem_euclid c.args.low u in
    let parts = euclid c.args.low u c.requires in
    let is : (h -ℤ q) *ℤ u -ℤ r ≡ h *ℤ u -ℤ c.args.low =
    omega (arith, ints, parts, times_difference h q u) in
    grind (
      arith,
      to_z-of_z,
      c.in_ok-whole.ensures,
      c.div_euclid.ensures,
      c.rem_euclid.ensures.value,
      c.without_low.ensures,
      is,
    )
