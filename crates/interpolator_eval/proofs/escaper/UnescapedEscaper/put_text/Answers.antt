use Rattle.std.proofs.Common.{arith, chars}
use Rattle.interpolator_render.proofs.{RenderingLemmas.plain_text, WrittenLemmas.appended_within}
use Rattle.interpolator_eval.proofs.escaper.UnescapedEscaper.put_text.Goals as goal

pub returns-in-Ok : goal.returns-in-Ok
returns-in-Ok g c = rw (plain_text (chars c.args.text.now)) (grind (arith, appended_within))

pub returns-in-Err : goal.returns-in-Err
returns-in-Err g c = rw (plain_text (chars c.args.text.now)) (grind arith)
