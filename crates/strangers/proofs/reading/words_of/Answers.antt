use Rattle.std.proofs.Common.{[], ◌∷◌, append-nil, append_assoc, inl, inr, sym}
use Rattle.std.proofs.lemmas.List.{drop_all, drop_more}
use Rattle.strangers.proofs.TakenLemmas.{taken_if_held}
use Rattle.strangers.proofs.reading.words_of.Goals as goal

pub loop-word-init : goal.loop-word-init
loop-word-init c =
    rw (c.in_ok-read.ensures.items) (record { given = λ more h. h; bad = λ text h. h })

pub loop-word-preserved : goal.loop-word-preserved
loop-word-preserved c =
    let so_far = c.loop-word.invariant in
    let one = rw c.as_str.ensures.value at (rw c.in-Some.is at c.in_ok-word.ensures) in
    let next = drop_more c.args.words.now c.loop-word.word-index c.word-item.result
    c.loop-word-test.true in
    rw (c.in_ok-push-in-Some.ensures.items) (record {
      given = λ more h. rw append_assoc
          (so_far.given (_ ∷ more) (rw (next, ← c.word-item.is) (one, h)));
      bad = λ text h. so_far.bad text
          (rw (next, ← c.word-item.is) (inl ((one.0, one.1, taken_if_held one.0 _ one.2), h)));
    })

pub returns-in-None : goal.returns-in-None
returns-in-None c =
    let none = rw c.as_str.ensures.value at (rw c.in-None.is at c.in_ok-word.ensures) in
    let next = drop_more c.args.words.now c.loop-word.word-index c.word-item.result
    c.loop-word-test.true in
    c.loop-word.invariant.bad _
    (rw (next, ← c.word-item.is) (inr (none, sym c.as_str-in-None.ensures.value)))

pub returns : goal.returns
returns c = rw append-nil at (c.loop-word.invariant.given []
    (rw (drop_all c.loop-word.word-index c.args.words.now c.loop-word-test.false) tt))
