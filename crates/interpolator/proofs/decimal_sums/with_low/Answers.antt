use Rattle.std.proofs.Common.{◌+ℤ◌, pos, arith, refl}
use Rattle.std.proofs.lemmas.Int.{ints, to_z-of_z}
use Rattle.interpolator.proofs.DecimalSumLemmas.{next_times}
use Rattle.interpolator.proofs.decimal_sums.with_low.Goals as goal

pub returns-then-high-lt0 : goal.returns-then-high-lt0
returns-then-high-lt0 c = grind (
  arith,
  ints,
  to_z-of_z,
  c.in_ok-checked_mul.ensures,
  c.checked_add.ensures,
  next_times c.args.high (c.args.high +ℤ pos 1) c.args.unit refl,
)
