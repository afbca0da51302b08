use Rattle.std.proofs.Common.{arith}
use Rattle.interpolator_eval.proofs.MeaningLemmas.PlacedLemmas.{wrote_at}
use Rattle.interpolator_eval.proofs.evaluate.sink.write_text_at.Goals as goal

pub returns-in-Ok : goal.returns-in-Ok
returns-in-Ok g c = grind (arith, wrote_at)
