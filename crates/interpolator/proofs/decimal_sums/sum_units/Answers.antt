use Rattle.std.proofs.Common.{◌≡◌, arith, max}
use Rattle.std.proofs.lemmas.Int.{ints, to_z-of_z}
use Rattle.interpolator.proofs.DecimalSumLemmas.{greater_scale, own_scale}
use Rattle.interpolator.proofs.decimal_sums.sum_units.Goals as goal

pub returns-then-left-right : goal.returns-then-left-right
returns-then-left-right c =
    let l = c.args.left in
    let r = c.args.right in
    let e : max l.scale r.scale ≡ r.scale = omega arith in
    grind (
      arith,
      ints,
      to_z-of_z,
      c.shifted_sum.ensures,
      own_scale r.units (max l.scale r.scale) r.scale e,
      greater_scale l.units (max l.scale r.scale) r.scale l.scale e,
    )

pub returns : goal.returns
returns c =
    let l = c.args.left in
    let r = c.args.right in
    let e : max l.scale r.scale ≡ l.scale = omega arith in
    grind (
      arith,
      ints,
      to_z-of_z,
      c.shifted_sum-2.ensures,
      own_scale l.units (max l.scale r.scale) l.scale e,
      greater_scale r.units (max l.scale r.scale) l.scale r.scale e,
    )
