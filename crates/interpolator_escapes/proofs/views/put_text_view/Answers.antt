use Rattle.std.proofs.Common.{arith, chars}
use Rattle.interpolator_escapes.specs.Escapes.{escape_of}
use Rattle.interpolator_escapes.proofs.PassingLemmas.{plain_escaped}
use Rattle.interpolator_escapes.proofs.views.put_text_view.Goals as goal

pub returns-in-Ok : goal.returns-in-Ok
returns-in-Ok g c =
    rw (plain_escaped (escape_of c.args.escape) (chars c.args.text.now)) (grind arith)

pub returns-in-Err : goal.returns-in-Err
returns-in-Err g c =
    rw (plain_escaped (escape_of c.args.escape) (chars c.args.text.now)) (grind arith)
