use Rattle.std.proofs.Common.{arith}
use Rattle.interpolator_eval.proofs.MeaningLemmas.PlacedLemmas.{wrote_at, refused_at}
use Rattle.interpolator_eval.proofs.evaluate.sink.write_padded.Goals as goal

pub returns-in-Ok : goal.returns-in-Ok
returns-in-Ok g c = grind (arith, wrote_at)

pub returns-in-Err : goal.returns-in-Err
returns-in-Err g c = grind (arith, refused_at)
