use Rattle.std.proofs.Common.{◌∙◌}
use Rattle.interpolator_pieces.proofs.CheckLemmas.{end_reported}
use Rattle.interpolator_pieces.proofs.checks.CheckVisitor.leave.Goals as goal

pub returns : goal.returns
returns c =
    c.check_end.ensures.end ∙ end_reported c.args._text.now c.args.piece.now c.requires c.args._spot
