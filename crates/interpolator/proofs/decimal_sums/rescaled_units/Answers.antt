use Rattle.std.proofs.{Common.arith, Common.rules, lemmas.Int.to_z-of_z}
use Rattle.std.specs.{Int.w128, Prelude.FitsSigned}
use Rattle.interpolator.proofs.DecimalSumLemmas.{fewer_same, match_map, more_digits, same_fewer}
use Rattle.interpolator.proofs.decimal_sums.rescaled_units.Goals as goal

pub returns-then-scale-number : goal.returns-then-scale-number
returns-then-scale-number c =
    let n = c.args.number in
    let fits : FitsSigned w128 n.units = search rules in
    match_map c.without_zeros.result
    (λ none v within same.
    none v (fewer_same n.units v c.args.scale n.scale (omega arith) same))
    (λ v is. same_fewer n.units v c.args.scale n.scale (omega arith) is)
    (rw (to_z-of_z w128 n.units fits) at c.without_zeros.ensures)

pub returns : goal.returns
returns c =
    let n = c.args.number in
    let fits : FitsSigned w128 n.units = search rules in
    more_digits c.shifted_sum.result n.units n.scale c.args.scale (omega arith)
    (rw (to_z-of_z w128 n.units fits) at c.shifted_sum.ensures)
