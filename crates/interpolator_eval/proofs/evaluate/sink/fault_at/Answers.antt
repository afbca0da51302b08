use Rattle.interpolator_eval.proofs.MeaningLemmas.PlacedLemmas.{view_failed}
use Rattle.interpolator_eval.proofs.evaluate.sink.fault_at.Goals as goal

pub returns : goal.returns
returns c =
    record {
      outcome = λ text old new h. view_failed c.args.wanted c.args.place text old new c.args.fault
          (rw c.if-lacks_text.false at c.lacks_text.ensures) h;
    }
