use Rattle.std.proofs.Common.{arith}
use Rattle.interpolator_pieces.proofs.StoredLemmas.{node_of_out, left_next, left_none}
use Rattle.interpolator_pieces.proofs.place.+place.Goals as goal

pub argument_among-returns-then-has_place : goal.argument_among-returns-then-has_place
argument_among-returns-then-has_place t c = λ bs.
    grind (arith, node_of_out, left_next, c.innermost.ensures bs, c.loop-piece.invariant bs)

pub argument_among-loop-piece-preserved : goal.argument_among-loop-piece-preserved
argument_among-loop-piece-preserved t c = λ bs.
    let next = left_next bs c.args.pieces.now c.loop-piece.piece-index _ c.loop-piece-test.true
    c.piece-item.is in
    grind (arith, node_of_out, next, c.loop-piece.invariant bs)

pub argument_among-returns : goal.argument_among-returns
argument_among-returns t c = λ bs. grind (arith, left_none, c.loop-piece.invariant bs)

pub innermost-returns : goal.innermost-returns
innermost-returns t c = λ bs.
    grind (arith, node_of_out, c.argument_in_item.ensures bs, c.argument_in_join.ensures bs)
