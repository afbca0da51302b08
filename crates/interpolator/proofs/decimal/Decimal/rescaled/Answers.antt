use Rattle.std.proofs.{Common.rules, lemmas.Int.to_z-of_z}
use Rattle.std.specs.{Int.w128, Prelude.FitsSigned}
use Rattle.interpolator.proofs.DecimalSumLemmas.{only_rescaled}
use Rattle.interpolator.proofs.decimal.Decimal.rescaled.Goals as goal

pub returns : goal.returns
returns c =
    let units = c.in_ok-units.units in
    let fits : FitsSigned w128 units = search rules in
    rw (to_z-of_z w128 units fits)
    (only_rescaled c.args.self c.args.scale units fits c.in_ok-units.ensures)
