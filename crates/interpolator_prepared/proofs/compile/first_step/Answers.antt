use Rattle.std.proofs.Common.{◌∙◌, sym}
use Rattle.interpolator_prepared.proofs.CompileLemmas.{text_part}
use Rattle.interpolator_prepared.proofs.compile.first_step.Goals as goal

pub text_step-requires-clause-first : goal.text_step-requires-clause-first
text_step-requires-clause-first g c =
    text_part (g.N.Names.known c.args.names) c.args.text.now c.args.piece.now
    (sym c.is_text.ensures ∙ c.if-is_text.true) c.requires.whole
