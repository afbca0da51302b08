use Rattle.std.proofs.Common.{refl, ap, ◌∙◌}
use Rattle.words.specs.Lists.{item_slots}
use Rattle.ifmt.proofs.BindLemmas.{zip_more}
use Rattle.ifmt.proofs.binding.entries_of.Goals as goal

pub loop-object-preserved : goal.loop-object-preserved
loop-object-preserved c =
    let filled = c.in_ok-as_items.ensures.ok ∙ ap item_slots c.as_slice.ensures.value in
    rw (c.in_ok-push.ensures.items)
    (zip_more _ c.args.objects.now c.loop-object.object-index c.object-item.result
    c.loop-object.entries.items _ c.loop-object-test.true c.object-item.is c.loop-object.invariant
    (record { same_word = refl; same_value = refl; filled = filled }))
