use Rattle.std.proofs.Common.{pos, max, ap, ◌∙◌, sym}
use Rattle.report.proofs.PlaceLemmas.{greatest_next}
use Rattle.report.proofs.totals.greatest_scale.Goals as goal

pub loop-number-preserved : goal.loop-number-preserved
loop-number-preserved c =
    c.max-scale.ensures ∙ ap (max _) c.loop-number.invariant
    ∙ sym (greatest_next c.args.numbers.now c.loop-number.number-index
    (record { units = pos 0; scale = 0 }) c.loop-number-test.true)
