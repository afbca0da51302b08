use Rattle.std.proofs.Common.{◌≡◌, ◌-◌, pos, arith, max}
use Rattle.std.proofs.lemmas.Int.{ints, to_z-of_z}
use Rattle.std.specs.Int.{int_pow}
use Rattle.interpolator.proofs.DecimalSumLemmas.{greater_scale, negated_out, negated_times}
use Rattle.interpolator.proofs.DecimalSumLemmas.{own_scale}
use Rattle.interpolator.proofs.decimal_sums.difference_units.Goals as goal

pub returns-in_err-checked_neg : goal.returns-in_err-checked_neg
returns-in_err-checked_neg c =
    let l = c.args.left in
    let r = c.args.right in
    let e : max l.scale r.scale ≡ l.scale = omega arith in
    grind (
      arith,
      ints,
      to_z-of_z,
      c.from_residual.ensures,
      c.in_err-checked_neg.ensures,
      negated_out l.units r.units (l.scale - r.scale) (omega arith),
      own_scale l.units (max l.scale r.scale) l.scale e,
      greater_scale r.units (max l.scale r.scale) l.scale r.scale e,
    )

pub returns-then-right-left : goal.returns-then-right-left
returns-then-right-left c =
    let l = c.args.left in
    let r = c.args.right in
    let e : max l.scale r.scale ≡ l.scale = omega arith in
    grind (
      arith,
      ints,
      to_z-of_z,
      c.in_ok-checked_neg.ensures,
      c.shifted_sum.ensures,
      negated_times r.units (int_pow (pos 10) (l.scale - r.scale)),
      own_scale l.units (max l.scale r.scale) l.scale e,
      greater_scale r.units (max l.scale r.scale) l.scale r.scale e,
    )

pub returns : goal.returns
returns c =
    let l = c.args.left in
    let r = c.args.right in
    let e : max l.scale r.scale ≡ r.scale = omega arith in
    grind (
      arith,
      ints,
      to_z-of_z,
      c.shifted_difference.ensures,
      own_scale r.units (max l.scale r.scale) r.scale e,
      greater_scale l.units (max l.scale r.scale) r.scale l.scale e,
    )
