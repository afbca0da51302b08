use Rattle.std.proofs.Common.{length, chars}
use Rattle.interpolator_syntax.specs.Places.{at}
use Rattle.interpolator_eval.specs.{Escaping.shows_by, Meaning.CodeEnvironments.environment_of}
use Rattle.interpolator_eval.specs.Meaning.ScannedLists.{text_forest}
use Rattle.interpolator_eval.proofs.MeaningLemmas.FirstPieceLemmas.{Passed}
use Rattle.interpolator_eval.proofs.evaluate.scan.write_tokens.Given as goal

abbrev pub invariant-loop-token : goal.invariant-loop-token
invariant-loop-token g l =
    Passed (shows_by g.E.Escaper.shown g.C.Object.Value.shows) (environment_of g.C.Context.finds l.environment)
    (text_forest (at l.text)) (text_forest (at l.here))
    (g.W.TextWrite.written l.fn.out) (g.W.TextWrite.written l.out) l.fn.count l.count

abbrev pub decreases-loop-token : goal.decreases-loop-token
decreases-loop-token g l = length (chars l.here.rest.now)
