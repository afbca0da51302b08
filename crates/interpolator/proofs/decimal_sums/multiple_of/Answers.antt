use Rattle.std.proofs.Common.{◌+ℤ◌, ◌*ℤ◌, ◌∙◌, ap, arith, of_z, sym}
use Rattle.std.proofs.lemmas.Int.{ints, to_z-of_z}
use Rattle.std.specs.Int.{int_div_euclid, w128}
use Rattle.interpolator.proofs.DecimalSumLemmas.{euclid, no_rest}
use Rattle.interpolator.proofs.decimal_sums.multiple_of.Goals as goal

pub returns-then-rem_euclid-ne0 : goal.returns-then-rem_euclid-ne0
returns-then-rem_euclid-ne0 c = λ times is.
    let number = c.args.number in
    let unit = c.args.unit in
    let rest = c.rem_euclid.ensures in
    let value = rw (to_z-of_z w128 number c.ranges.number, to_z-of_z w128 unit c.ranges.unit)
    at rest.value in
    let none = no_rest times number (int_div_euclid number unit) unit c.rem_euclid.result c.requires
    (omega (arith, ints, rest.lower_bound)) (omega (arith, ints, rest.upper_bound))
    (euclid number unit c.requires
    ∙ ap (λ r. int_div_euclid number unit *ℤ unit +ℤ r) (sym value)) is in
    c.if-rem_euclid-ne0.true (ap (of_z w128) none)

pub returns : goal.returns
returns c =
    let number = c.args.number in
    let unit = c.args.unit in
    let split = euclid number unit c.requires in
    grind (
      arith,
      ints,
      to_z-of_z,
      c.rem_euclid.ensures.value,
      c.div_euclid.ensures,
      c.if-rem_euclid-ne0.false,
      split,
    )
