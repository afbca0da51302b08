use Rattle.ifmt.proofs.BindLemmas.{has_object, zip_more}
use Rattle.ifmt.proofs.binding.objects_of.Goals as goal

pub loop-text-preserved : goal.loop-text-preserved
loop-text-preserved c =
    let made = c.in_ok-object_of.ensures in
    rw (c.in_ok-push.ensures.items)
    (zip_more _ c.args.words.now c.loop-text.text-index c.text-item.result
    c.loop-text.objects.items _ c.loop-text-test.true c.text-item.is c.loop-text.invariant
    (has_object _ _ _ _ c.as_str.ensures.value c.classify.ensures made.word made.value made.items))
