use Rattle.std.proofs.Common.{◌≡◌, drop}
use Rattle.interpolator_pieces.specs.NodeCosts.{then_cost, forest_cost, usize_cost}
use Rattle.interpolator_syntax.specs.Nodes.{as_forest}
use Rattle.interpolator_pieces.specs.Stored.{nodes_of}
use Rattle.interpolator_pieces.proofs.cost.+cost.Given as goal

-- the cost so far, and that of the pieces that are left
abbrev pub invariant-cost_of-loop-piece : goal.invariant-cost_of-loop-piece
invariant-cost_of-loop-piece l =
    record {
      so_far : usize_cost (then_cost l.cost
          (forest_cost l.limits (as_forest (nodes_of l.text (drop l.piece-index l.pieces)))))
          ≡ usize_cost (forest_cost l.limits (as_forest (nodes_of l.text l.pieces)));
      reported : l.cost ≡ usize_cost l.cost;
    }
