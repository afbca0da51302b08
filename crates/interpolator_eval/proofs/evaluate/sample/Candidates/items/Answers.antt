use Rattle.std.proofs.Common.{map}
use Rattle.interpolator_eval.specs.Slots.{slots_of}
use Rattle.interpolator_eval.proofs.MeaningLemmas.SampleLemmas.{items_of_each}
use Rattle.interpolator_eval.proofs.evaluate.sample.Candidates.items.Goals as goal

pub returns-in-Each-clause-items : goal.returns-in-Each-clause-items
returns-in-Each-clause-items g c =
    rw (c.in-Each.is)
    (items_of_each c.in-Each.below.level (map slots_of c.in-Each.below.items.now))
