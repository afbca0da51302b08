use Rattle.std.specs.Option.{option_copied, option_map}
use Rattle.std.proofs.Common.{◌-◌, ◌+◌, ◌∙◌, ap, arith, sym}
use Rattle.interpolator_eval.proofs.PairLemmas.{found, passed}
use Rattle.interpolator_eval.proofs.pairs.last_of_many.Goals as goal

pub returns-in-Some : goal.returns-in-Some
returns-in-Some g c =
    let from = c.loop-left.left - 4 in
    sym (c.loop-left.invariant.1
    ∙ found c.args.name.now c.args.pairs.now from (from + 4 - from) c.loop-left.left (grind arith)
    c.in-Some.pair.now.1
    (sym c.last_of_four.ensures
    ∙ ap (λ o. option_map (λ pair. pair.1) (option_copied o)) c.in-Some.is))

pub loop-left-preserved : goal.loop-left-preserved
loop-left-preserved g c =
    let from = c.loop-left.left - 4 in (
      grind arith,
      c.loop-left.invariant.1
          ∙ passed c.args.name.now c.args.pairs.now from (from + 4 - from) c.loop-left.left (grind arith)
          (sym c.last_of_four.ensures
          ∙ ap (λ o. option_map (λ pair. pair.1) (option_copied o)) c.in_default.is),
    )
