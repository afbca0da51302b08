use Rattle.std.proofs.Common.{refl, []}
use Rattle.interpolator_render.proofs.FloatRowLemmas.{tens_text}
use Rattle.interpolator_render.proofs.float.put_tens.Goals as goal

pub returns : goal.returns
returns g c =
    let text = tens_text c.args.shown.digits c.args.shown.up c.args.shown.down c.digit_str.result.now
    [] [] [] c.requires.trimmed c.requires.many c.digit_str.ensures.text refl refl refl in
    rw (← text, ← c.sign_str.ensures.value) c.put_padded_decimal.ensures
