use Rattle.std.proofs.{Common.arith, Common.refl, lemmas.Result.err_from_is_err_and}
use Rattle.interpolator_syntax.specs.Faults.{missing_trait_impl}
use Rattle.interpolator_pieces.proofs.CollectLemmas.{collects_before, collects_nothing, shown_right}
use Rattle.interpolator_pieces.proofs.sample.collect_values.Goals as goal

pub returns-in_err-collect_if : goal.returns-in_err-collect_if
returns-in_err-collect_if g c =
    let reported = c.in_err-collect_if.ensures (missing_trait_impl c.args.t c.args.end) refl in
    grind (arith, err_from_is_err_and, collects_before, reported)

pub returns-then-not-any_lacks : goal.returns-then-not-any_lacks
returns-then-not-any_lacks g c = grind (arith, shown_right, collects_nothing)
