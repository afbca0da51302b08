use Rattle.std.proofs.Common.{rules, arith}
use Rattle.interpolator_pieces.specs.declared.piece.Piece.TheViews.{size-Piece}
use Rattle.interpolator_pieces.proofs.CostLemmas.{capped_content, same_cost}
use Rattle.interpolator_pieces.proofs.StoredLemmas.{left_next, left_none, node_of_out}
use Rattle.interpolator_pieces.proofs.WholePieceLemmas.{piece_whole, most_at, in_item, in_join}
use Rattle.interpolator_pieces.proofs.cost.+cost.Goals as goal

pub cost_of-loop-piece-init : goal.cost_of-loop-piece-init
cost_of-loop-piece-init t c = grind (arith, same_cost)

pub cost_of-cost_of_piece-requires : goal.cost_of-cost_of_piece-requires
cost_of-cost_of_piece-requires t c = grind (arith, piece_whole, most_at size-Piece)

pub cost_of-loop-piece-preserved : goal.cost_of-loop-piece-preserved
cost_of-loop-piece-preserved t c = grind (arith, same_cost, left_next)

pub cost_of-returns : goal.cost_of-returns
cost_of-returns t c = grind (arith, same_cost, left_none)

pub cost_of_piece-returns : goal.cost_of_piece-returns
cost_of_piece-returns t c =
    grind (arith, node_of_out, capped_content)

pub cost_of_item-cost_of-requires : goal.cost_of_item-cost_of-requires
cost_of_item-cost_of-requires t c =
    let group = in_item c.args.text.now c.args.piece.now _ c.deref.result.now
    c.deref.ensures.value (search rules) c.in-Some.is in
    let smaller = group.smaller in
    (search (rules, smaller), group.whole)

pub cost_of_join-cost_of-requires : goal.cost_of_join-cost_of-requires
cost_of_join-cost_of-requires t c =
    let group = in_join c.args.text.now c.args.piece.now _ c.deref.result.now
    c.deref.ensures.value (search rules) c.in-Some.is in
    let smaller = group.smaller in
    (search (rules, smaller), group.whole)
