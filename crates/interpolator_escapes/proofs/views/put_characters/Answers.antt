use Rattle.std.proofs.Common.{arith}
use Rattle.interpolator_escapes.specs.Escapes.{escape_of}
use Rattle.interpolator_escapes.proofs.{EscapingLemmas.escape_some, PassingLemmas.refused_before}
use Rattle.interpolator_escapes.proofs.views.put_characters.Goals as goal

pub returns-then-refused : goal.returns-then-refused
returns-then-refused g c =
    refused_before (escape_of c.args.escape) c.args.wanted c.args.spec.now
    (escape_some c.args.escape) _ _ (grind arith) _ _ c.render.ensures
