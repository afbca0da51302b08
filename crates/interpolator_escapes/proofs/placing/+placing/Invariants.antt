use Rattle.std.proofs.Common.{drop, Result}
use Rattle.interpolator_syntax.specs.Nodes.{as_forest}
use Rattle.interpolator_pieces.specs.Stored.{nodes_of}
use Rattle.interpolator_escapes.specs.Placing.{ForestPlaced}
use Rattle.interpolator_escapes.specs.declared.misplaced.PlaceError.{PlaceError}
use Rattle.interpolator_escapes.proofs.placing.+placing.Given as goal

-- what is told of the pieces that are left, from here, is told of all
abbrev pub invariant-place_all-loop-piece : goal.invariant-place_all-loop-piece
invariant-place_all-loop-piece g l =
    (t : g.R.Reader.State) (answer : Result (Unit {0}) PlaceError)
    → ForestPlaced g.R.Reader.step g.R.Reader.places (g.R.Reader.state l.reader)
    (as_forest (nodes_of l.text (drop l.piece-index l.pieces))) t answer
    → ForestPlaced g.R.Reader.step g.R.Reader.places (g.R.Reader.state l.fn.reader)
    (as_forest (nodes_of l.text l.pieces)) t answer
