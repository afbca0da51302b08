use Rattle.interpolator_laws.proofs.ResembleLemmas.{no_fault, no_memory_point}
use Rattle.interpolator_laws.proofs.samples.a_checked_format_means_no_fault.Goals as goal

pub returns-clause-fault : goal.returns-clause-fault
returns-clause-fault g c = no_fault g.S.Value.shows g.V.Value.shows

pub returns-clause-memory : goal.returns-clause-memory
returns-clause-memory g c = no_memory_point g.S.Value.shows g.V.Value.shows
