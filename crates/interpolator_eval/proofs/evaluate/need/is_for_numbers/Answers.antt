use Rattle.std.proofs.Common.{arith}
use Rattle.interpolator_eval.proofs.MeaningLemmas.SampleLemmas.{no_letters}
use Rattle.interpolator_eval.proofs.evaluate.need.is_for_numbers.Goals as goal

pub returns-in_default : goal.returns-in_default
returns-in_default c = grind (arith, no_letters)
