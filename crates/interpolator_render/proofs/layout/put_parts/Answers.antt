use Rattle.interpolator_render.specs.Layout.{part_text}
use Rattle.interpolator_render.proofs.LayoutLemmas.{parts_append, parts_stop, parts_count}
use Rattle.interpolator_render.proofs.layout.put_parts.Goals as goal

pub returns-in-Err : goal.returns-in-Err
returns-in-Err g c = let l = c.loop-part in
    parts_stop part_text _ _ _ c.args.parts.now l.part-index _ l.done c.in-Err.refusal.taken _
    c.loop-part-test.true l.invariant.1 c.saturating_add-taken.ensures l.invariant.0
    c.in-Err.ensures

pub loop-part-preserved : goal.loop-part-preserved
loop-part-preserved g c = let l = c.loop-part in let within = c.loop-part-test.true in
    let more = parts_append part_text _ _ _ c.args.parts.now l.part-index _ within l.invariant.0
    c.in_default.ensures in
    let count = parts_count part_text c.args.parts.now l.part-index _ l.done c.len.result _ within
    l.invariant.1 c.len.ensures c.saturating_add-done.ensures in (more, count)
