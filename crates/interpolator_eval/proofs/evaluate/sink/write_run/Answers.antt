use Rattle.std.proofs.Common.{arith, rules, ◌≡◌, ◌<◌, length, get_or}
use Rattle.interpolator_render.proofs.WrittenLemmas.{appended_within}
use Rattle.interpolator_syntax.proofs.{StripLemmas.one_char, CharacterLemmas.size-chars}
use Rattle.interpolator_eval.proofs.MeaningLemmas.PlacedLemmas.{wrote_from, refused_from}
use Rattle.interpolator_eval.proofs.MeaningLemmas.PlacedLemmas.{taken_fits}
use Rattle.interpolator_eval.proofs.evaluate.sink.write_run.Goals as goal

pub overflow_add-result : goal.overflow_add-result
overflow_add-result g c = grind (arith, taken_fits, size-chars)

pub returns-in-Ok : goal.returns-in-Ok
returns-in-Ok g c = grind (arith, wrote_from, appended_within)

pub returns-in-Err : goal.returns-in-Err
returns-in-Err g c = grind (arith, refused_from)

pub returns-then-is_ascii : goal.returns-then-is_ascii
returns-then-is_ascii g c =
    let one : length c.as_bytes.result.now ≡ 1 =
    omega (arith, c.in-len1.len_at_least, c.in-len1.len_below) in
    let low : get_or c.as_bytes.result.now 0 0 < 128 = search rules in
    rw (one_char c.args.text.now c.as_bytes.result.now c.as_bytes.ensures.value one low c.utf8.text)
    (record { outcome = c.write_char.ensures.outcome })
