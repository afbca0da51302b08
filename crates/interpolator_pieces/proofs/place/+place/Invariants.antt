use Rattle.std.proofs.Common.{◌≡◌, ℕ, List, drop}
use Rattle.interpolator_pieces.specs.{NodePlaces.argument_among, Stored.nodes_of}
use Rattle.interpolator_syntax.specs.Nodes.{as_forest}
use Rattle.interpolator_pieces.proofs.place.+place.Given as goal

-- no piece so far has the place
abbrev pub invariant-argument_among-loop-piece : goal.invariant-argument_among-loop-piece
invariant-argument_among-loop-piece l =
    (bs : List ℕ)
    → argument_among l.place (as_forest (nodes_of bs (drop l.piece-index l.pieces)))
    ≡ argument_among l.place (as_forest (nodes_of bs l.pieces))
