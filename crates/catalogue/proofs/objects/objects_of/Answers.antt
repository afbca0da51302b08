use Rattle.std.proofs.Common.{string_bytes}
use Rattle.words.specs.Words.{IsGood}
use Rattle.catalogue.proofs.ZipLemmas.{first_without, zip_more}
use Rattle.catalogue.proofs.objects.objects_of.Goals as goal

pub loop-word-preserved : goal.loop-word-preserved
loop-word-preserved c =
    rw (c.in_ok-push-in-Some.ensures.items)
    (zip_more _ c.args.words.now c.loop-word.word-index c.word-item.result
    c.loop-word.objects.items _ c.loop-word-test.true c.word-item.is c.loop-word.invariant
    (rw c.as_str.ensures.value at (rw c.in-Some.is at c.in_ok-object.ensures.given)))

pub returns-in-None-clause-given : goal.returns-in-None-clause-given
returns-in-None-clause-given c = rw c.as_str-in-None.ensures.value
    (first_without string_bytes IsGood _ (λ word object gives. (gives.0, gives.1))
    c.args.words.now c.loop-word.word-index c.word-item.result c.loop-word.objects.items
    c.loop-word-test.true c.word-item.is c.loop-word.invariant
    (rw c.as_str.ensures.value at (rw c.in-None.is at c.in_ok-object.ensures.given)))
