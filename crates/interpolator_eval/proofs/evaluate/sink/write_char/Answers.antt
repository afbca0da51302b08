use Rattle.std.proofs.Common.{[], ◌∷◌}
use Rattle.interpolator_eval.proofs.MeaningLemmas.PlacedLemmas.{refused_at}
use Rattle.interpolator_eval.proofs.evaluate.sink.write_char.Goals as goal

pub returns-in-Err : goal.returns-in-Err
returns-in-Err g c =
    record { outcome = refused_at c.args.place (c.args.c ∷ []) _ _ c.in-Err.ensures.part }
