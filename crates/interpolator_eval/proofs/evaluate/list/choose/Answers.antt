use Rattle.std.proofs.Common.{arith}
use Rattle.interpolator_eval.proofs.MeaningLemmas.ChoiceLemmas.{between, places_ordered}
use Rattle.interpolator_eval.proofs.evaluate.list.choose.Goals as goal

pub returns : goal.returns
returns g c = grind (arith, between, places_ordered)
