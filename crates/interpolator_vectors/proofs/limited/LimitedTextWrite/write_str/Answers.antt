use Rattle.std.proofs.Common.{rules, arith, length, ◌≡◌, encode_utf8}
use Rattle.std.proofs.lemmas.List.{nil_from_length}
use Rattle.interpolator_vectors.proofs.LimitLemmas.{taken_none, taken_more, taken_fits, taken_whole}
use Rattle.interpolator_vectors.proofs.LimitLemmas.{taken_part}
use Rattle.interpolator_vectors.proofs.limited.LimitedTextWrite.write_str.Goals as goal

pub loop-c-init : goal.loop-c-init
loop-c-init c = rw (c.into_iter-c-iterator.ensures.into_iter_gives, c.chars-c-items.ensures.rest)
    (taken_none _ _ c.utf8.text)

pub returns-in-Err : goal.returns-in-Err
returns-in-Err c =
    taken_part _ _ _ _ _ _ _ _ _ c.in-Some.ensures.steps.0 c.loop-c.invariant c.in-Err.ensures

pub overflow_add-taken : goal.overflow_add-taken
overflow_add-taken c =
    let fits = taken_fits _ _ _ _ _ _ _ c.in-Some.ensures.steps.0 c.loop-c.invariant in
    let size : c.len_utf8-taken.result ≡ length (encode_utf8 c.in-Some.c) = search rules in
    omega (arith, size)

pub loop-c-preserved : goal.loop-c-preserved
loop-c-preserved c =
    let size : c.len_utf8-taken.result ≡ length (encode_utf8 c.in-Some.c) = search rules in
    taken_more _ _ _ _ _ _ _ _ _ size c.in-Some.ensures.steps.0 c.loop-c.invariant c.in-Ok.ensures

pub returns : goal.returns
returns c =
    taken_whole _ _ _ _ _ (nil_from_length _ c.in-None.ensures.steps.0.0) c.loop-c.invariant
