use Rattle.std.proofs.Common.{◌≡◌, length, true}
use Rattle.interpolator_syntax.specs.Nodes.{as_forest}
use Rattle.interpolator_eval.specs.{Escaping.shows_by, Meaning.CodeEnvironments.environment_of}
use Rattle.interpolator_eval.proofs.MeaningLemmas.FirstPieceLemmas.{Passed}
use Rattle.interpolator_pieces.specs.Stored.{forest_whole, nodes_of}
use Rattle.interpolator_pieces.proofs.stored_source.run_pieces.Given as goal

-- the pieces that are left fit their text, and those before them were written up to the first list
abbrev pub invariant-loop-piece : goal.invariant-loop-piece
invariant-loop-piece g l =
    let rest = as_forest (nodes_of l.source.text.now l.rest) in
    record {
      whole : forest_whole rest ≡ true;
      passed : Passed (shows_by g.E.Escaper.shown g.C.Object.Value.shows) (environment_of g.C.Context.finds l.environment)
          (as_forest (nodes_of l.source.text.now l.source.pieces.now)) rest
          (g.W.TextWrite.written l.fn.out) (g.W.TextWrite.written l.out) l.fn.count l.count;
    }

abbrev pub decreases-loop-piece : goal.decreases-loop-piece
decreases-loop-piece g l = length l.rest
