use Rattle.std.proofs.Common.{◌≡◌, ◌≤◌, ◌⊎◌, [], Err, arith, encode_utf8, length, subst}
use Rattle.interpolator_render.proofs.WrittenLemmas.{chars-encode}
use Rattle.interpolator_border.proofs.MeasureLemmas.{keeps_before, no_more, one_empty}
use Rattle.interpolator_border.proofs.measured.MeasuredTextWrite.write_char.Goals as goal

pub returns-in-Err : goal.returns-in-Err
returns-in-Err c = let old = c.args.self.now in
    let one = chars-encode c.args.c c.ranges.c.0 in
    let fits : length (encode_utf8 c.args.c) ≤ old.left = grind arith in
    keeps_before old.kept c.write_char.new.self _ old.rest.text old.refused
    (Err c.in-Err.refusal) c.in-Err.ensures.written c.in-Err.ensures.whole
    (subst (λ text. (old.rest.text ≡ []) ⊎ (text ≡ [])) one
    (one_empty old.count old.left old.rest.text (encode_utf8 c.args.c) old.whole old.over fits))
    (λ set. subst (λ text. text ≡ []) one
    (no_more old.left (encode_utf8 c.args.c) fits (old.silent set)))
