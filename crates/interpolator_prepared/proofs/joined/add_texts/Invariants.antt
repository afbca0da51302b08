use Rattle.std.proofs.Common.{drop, ◌++◌}
use Rattle.interpolator_syntax.specs.Places.{Placed}
use Rattle.interpolator_prepared.specs.StoredSteps.{texts_placed}
use Rattle.interpolator_prepared.proofs.JoinedLemmas.{Joins, Stands}
use Rattle.interpolator_prepared.proofs.joined.add_texts.Given as goal

-- the text so far, and that of the pieces that are left, is the text before and that of all
abbrev pub invariant-loop-piece : goal.invariant-loop-piece
invariant-loop-piece l =
    (placed : Placed) → Stands l.fn.joined placed
    → Joins l.text (placed ++ texts_placed l.text l.pieces) l.joined (drop l.piece-index l.pieces)
