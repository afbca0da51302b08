use Rattle.std.proofs.Common.{◌*◌, ◌+◌, ◌/◌, ◌^◌, subst, sym, ◌∙◌}
use Rattle.interpolator_floats.proofs.TensLemmas.{IsCount, any_count}
use Rattle.interpolator_floats.proofs.UnitLemmas.{any_scale, down_steps, up_of, up_steps}
use Rattle.interpolator_floats.specs.Shortest.{IsScale}
use Rattle.interpolator_floats.proofs.scale.counted_scale.Goals as goal

pub returns-clause-scale : goal.returns-clause-scale
returns-clause-scale c =
    let loss = c.scale_loss-loss.result in
    let power = c.args.power in
    let half = c.args.half in
    let over = c.saturating_sub-over in
    let up = up_steps loss power over.result over.ensures c.saturating_sub-up.result c.saturating_sub-up.ensures in
    let down = down_steps loss power over.result over.ensures c.saturating_sub-under.result c.saturating_sub.result c.saturating_sub-under.ensures c.saturating_sub.ensures in
    subst (λ u. IsScale power half u ((c.saturating_sub-under.result * 315653 + c.saturating_sub.result + 1048575) / 1048576)) (sym up)
    (subst (λ d. IsScale power half (up_of loss power) d) (sym down)
    (any_scale power half loss c.requires.low c.requires.some c.requires.most c.scale_loss-loss.ensures.near c.scale_loss-loss.ensures.far))

pub returns-clause-units : goal.returns-clause-units
returns-clause-units c =
    let loss = c.scale_loss-loss.result in
    let power = c.args.power in
    let over = c.saturating_sub-over in
    let up = up_steps loss power over.result over.ensures c.saturating_sub-up.result c.saturating_sub-up.ensures in
    let down = down_steps loss power over.result over.ensures c.saturating_sub-under.result c.saturating_sub.result c.saturating_sub-under.ensures c.saturating_sub.ensures in
    let count = subst (λ u. IsCount power u ((c.saturating_sub-under.result * 315653 + c.saturating_sub.result + 1048575) / 1048576)) (sym up)
    (subst (λ d. IsCount power (up_of loss power) d) (sym down)
    (any_count power c.args.half loss c.requires.low c.requires.some c.requires.most c.scale_loss-loss.ensures.near c.scale_loss-loss.ensures.far)) in
    (λ i. c.leading.ensures i / 2 ^ c.saturating_sub-shift.ensures i) ∙ count
