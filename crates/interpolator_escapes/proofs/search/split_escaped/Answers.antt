use Rattle.std.proofs.Common.{arith, ◌≡◌, IsCharBoundary}
use Rattle.std.proofs.lemmas.{Grind.common_steps, Str.IsUtf8-past_char, Str.IsUtf8-drop}
use Rattle.interpolator_escapes.proofs.SearchLemmas.{front_boundary, found_parts, found_none}
use Rattle.interpolator_escapes.proofs.search.split_escaped.Goals as goal

pub split_at-requires : goal.split_at-requires
split_at-requires c =
    front_boundary c.args.escape c.args.text.now c.plain_front.result (grind (arith, common_steps))
    (grind (arith, common_steps))

pub returns-in-Some-clause-parts : goal.returns-in-Some-clause-parts
returns-in-Some-clause-parts c =
    let bytes : c.as_bytes.result.now ≡ c.args.text.now = grind (arith, common_steps) in
    let cut : IsCharBoundary c.args.text.now c.plain_front.result = front_boundary c.args.escape
    c.args.text.now c.plain_front.result (grind (arith, common_steps))
    (grind (arith, common_steps)) in
    found_parts c.args.escape c.args.text.now _ _ _ c.plain_front.result _ c.utf8.text cut
    (rw bytes at c.plain_front.ensures.plain) c.split_at.ensures.front c.split_at.ensures.back
    c.in-Some.ensures.chars

pub returns-in-None-clause-parts : goal.returns-in-None-clause-parts
returns-in-None-clause-parts c =
    let bytes : c.as_bytes.result.now ≡ c.args.text.now = grind (arith, common_steps) in
    let cut : IsCharBoundary c.args.text.now c.plain_front.result = front_boundary c.args.escape
    c.args.text.now c.plain_front.result (grind (arith, common_steps))
    (grind (arith, common_steps)) in
    found_none c.args.escape c.args.text.now _ _ c.plain_front.result c.utf8.text cut
    (rw bytes at c.plain_front.ensures.plain) c.split_at.ensures.front c.split_at.ensures.back
    c.in-None.ensures.chars

pub returns-in-Some-clause-utf8 : goal.returns-in-Some-clause-utf8
returns-in-Some-clause-utf8 c =
    let cut : IsCharBoundary c.args.text.now c.plain_front.result = front_boundary c.args.escape
    c.args.text.now c.plain_front.result (grind (arith, common_steps))
    (grind (arith, common_steps)) in
    IsUtf8-past_char _ _ _ (rw c.split_at.ensures.back (IsUtf8-drop c.args.text.now
    c.plain_front.result c.utf8.text cut)) c.in-Some.ensures.bytes
