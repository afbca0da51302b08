use Rattle.std.proofs.Common.{arith}
use Rattle.interpolator_pieces.proofs.ExtentLemmas.{extent_entered}
use Rattle.interpolator_pieces.proofs.extent.WidestVisitor.enter.Goals as goal

pub returns : goal.returns
returns c =
    grind (arith, extent_entered c.args._spot c.args._text.now c.args.piece.now c.requires.whole)
