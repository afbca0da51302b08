use Rattle.interpolator_laws.proofs.ItselfLemmas.{no_fault_itself, resembles_itself}
use Rattle.interpolator_laws.proofs.samples.a_context_resembles_itself.Goals as goal

pub returns : goal.returns
returns g c =
    record { resembles = resembles_itself g.V.Value.shows; fault = no_fault_itself g.V.Value.shows }
