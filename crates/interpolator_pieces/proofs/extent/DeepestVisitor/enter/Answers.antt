use Rattle.std.proofs.Common.{arith}
use Rattle.interpolator_pieces.proofs.{StoredLemmas.node_of_out, WalkLemmas.piece_depth}
use Rattle.interpolator_pieces.proofs.extent.DeepestVisitor.enter.Goals as goal

pub inner_depth-item-requires : goal.inner_depth-item-requires
inner_depth-item-requires c = grind (arith, piece_depth)

pub inner_depth-join-requires : goal.inner_depth-join-requires
inner_depth-join-requires c = grind (arith, piece_depth)

pub returns : goal.returns
returns c =
    let bs = c.args._text.now in
    grind (arith, node_of_out, c.inner_depth-item.ensures bs, c.inner_depth-join.ensures bs)
