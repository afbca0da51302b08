use Rattle.interpolator_pieces.proofs.CostLawLemmas.{no_memory_taken}
use Rattle.interpolator_laws.proofs.costs.a_format_that_holds_nothing_takes_no_memory.Goals as goal

pub returns : goal.returns
returns g c = record { none = λ limits e a. no_memory_taken g.V.Value.shows limits e a }
