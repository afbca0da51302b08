use Rattle.std.proofs.{Common.ap, Common.arith, Common.of_z, lemmas.Int.ints, lemmas.Int.to_z-of_z}
use Rattle.std.specs.Int.{w128}
use Rattle.interpolator.proofs.DecimalSumLemmas.{unit_out_less, unit_some}
use Rattle.interpolator.proofs.decimal_sums.shifted_difference.Goals as goal

pub returns-in_err-checked_pow : goal.returns-in_err-checked_pow
returns-in_err-checked_pow c =
    rw c.from_residual.ensures
    (unit_out_less c.args.high c.args.low c.args.zeros
    (λ none. c.if-high-eq0.false (ap (of_z w128) none)) c.in_err-checked_pow.ensures c.ranges.low)

pub unit_difference-requires : goal.unit_difference-requires
unit_difference-requires c =
    grind (arith, ints, to_z-of_z, c.in_ok-checked_pow.ensures, unit_some c.args.zeros)
