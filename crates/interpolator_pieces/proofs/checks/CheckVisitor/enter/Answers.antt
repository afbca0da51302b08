use Rattle.std.proofs.Common.{◌∙◌}
use Rattle.interpolator_pieces.proofs.CheckLemmas.{own_reported}
use Rattle.interpolator_pieces.proofs.checks.CheckVisitor.enter.Goals as goal

pub returns : goal.returns
returns c =
    c.check_own.ensures.own ∙ own_reported c.args._text.now c.args.piece.now c.requires.whole c.args._spot
