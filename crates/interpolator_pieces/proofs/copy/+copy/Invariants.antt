use denote.Param.Weighed.{most}
use Rattle.std.proofs.Common.{◌≡◌, ℕ, List, take, ◌+◌, ◌*◌}
use Rattle.interpolator_pieces.specs.{Stored.nodes_of, declared.piece.Piece.TheViews.size-Piece}
use Rattle.interpolator_pieces.proofs.WholePieceLemmas.{group_most}
use Rattle.interpolator_pieces.proofs.copy.+copy.Given as goal

-- the copies so far have the nodes of the pieces so far
abbrev pub invariant-copy_pieces-loop-piece : goal.invariant-copy_pieces-loop-piece
invariant-copy_pieces-loop-piece l =
    (bs : List ℕ) → nodes_of bs l.copy.items ≡ nodes_of bs (take l.piece-index l.pieces)

abbrev pub decreases-copy_pieces : goal.decreases-copy_pieces
decreases-copy_pieces l = 4 * most size-Piece l.pieces.now + 1

abbrev pub decreases-copy_piece : goal.decreases-copy_piece
decreases-copy_piece l = 4 * size-Piece l.piece.now

abbrev pub decreases-copy_group : goal.decreases-copy_group
decreases-copy_group l = 4 * group_most l.group.now + 2
