use Rattle.std.proofs.Common.{subst, sym, ◌∙◌, arith}
use Rattle.std.proofs.lemmas.Str.{IsAscii-drop, IsAscii-take}
use Rattle.std.specs.Str.{IsAscii}
use Rattle.interpolator_floats.specs.ExponentTexts.{signed_tail}
use Rattle.interpolator_render.proofs.{ExponentRowLemmas.grown_alone, FloatRowLemmas.form_parts}
use Rattle.interpolator_render.proofs.float.put_form.Goals as goal

pub put_padded_decimal-requires-clause-whole : goal.put_padded_decimal-requires-clause-whole
put_padded_decimal-requires-clause-whole g c =
    subst IsAscii (sym c.split_at.ensures.front) (IsAscii-take c.args.shown.digits.now 1 c.requires.ascii)

pub put_padded_decimal-requires-clause-part : goal.put_padded_decimal-requires-clause-part
put_padded_decimal-requires-clause-part g c =
    subst IsAscii (sym c.split_at.ensures.back) (IsAscii-drop c.args.shown.digits.now 1 c.requires.ascii)

pub returns : goal.returns
returns g c =
    let shown = c.args.shown in
    let tail = c.as_str.ensures.text ∙ grown_alone (signed_tail c.args.upper shown.below shown.size)
    c.put_signed_tail.new.buffer c.new-tail.result (grind arith) c.put_signed_tail.ensures in
    let text = form_parts shown.digits.now c.split_at.result.0.now c.split_at.result.1.now
    c.point_str.result.now c.as_str.result.now (signed_tail c.args.upper shown.below shown.size)
    shown.zeros c.saturating_add.result c.requires.some c.split_at.ensures.front
    c.split_at.ensures.back c.point_str.ensures.value c.saturating_add.ensures tail in
    rw (← text, ← c.sign_str.ensures.value) c.put_padded_decimal.ensures
