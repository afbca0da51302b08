use Rattle.std.proofs.{Common.ap, Common.arith, Common.of_z, lemmas.Int.ints, lemmas.Int.to_z-of_z}
use Rattle.std.specs.Int.{w128}
use Rattle.interpolator.proofs.DecimalSumLemmas.{no_fewer, unit_some}
use Rattle.interpolator.proofs.decimal_sums.without_zeros.Goals as goal

pub returns-in_err-checked_pow : goal.returns-in_err-checked_pow
returns-in_err-checked_pow c =
    rw c.from_residual.ensures
    (no_fewer c.args.number c.args.zeros (λ none. c.if-number-eq0.false (ap (of_z w128) none))
    c.in_err-checked_pow.ensures c.ranges.number)

pub multiple_of-requires : goal.multiple_of-requires
multiple_of-requires c =
    grind (arith, ints, to_z-of_z, c.in_ok-checked_pow.ensures, unit_some c.args.zeros)
