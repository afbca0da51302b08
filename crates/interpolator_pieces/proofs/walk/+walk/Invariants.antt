use denote.Param.Weighed.{most}
use Rattle.std.proofs.Common.{drop, ◌+◌, ◌*◌}
use Rattle.interpolator_pieces.specs.{Visits.forest_visits, Stored.nodes_of}
use Rattle.interpolator_pieces.specs.declared.piece.Piece.TheViews.{size-Piece}
use Rattle.interpolator_syntax.specs.Nodes.{as_forest}
use Rattle.interpolator_pieces.proofs.{WalkLemmas.WalksOn, WholePieceLemmas.group_most}
use Rattle.interpolator_pieces.proofs.walk.+walk.Given as goal

-- the visits of the pieces that are left end those of all
abbrev pub invariant-walk-loop-piece : goal.invariant-walk-loop-piece
invariant-walk-loop-piece g l =
    WalksOn (g.V.Visitor.step l.text)
    l.visitor (forest_visits l.level (as_forest (nodes_of l.text (drop l.piece-index l.pieces))))
    l.fn.visitor (forest_visits l.level (as_forest (nodes_of l.text l.pieces)))

abbrev pub decreases-walk : goal.decreases-walk
decreases-walk g l = 4 * most size-Piece l.pieces.now + 1

abbrev pub decreases-walk_piece : goal.decreases-walk_piece
decreases-walk_piece g l = 4 * size-Piece l.piece.now

abbrev pub decreases-walk_group : goal.decreases-walk_group
decreases-walk_group g l = 4 * group_most l.group.now + 2
