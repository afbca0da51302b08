use Rattle.interpolator_laws.proofs.RowSampleLemmas.{means_no_fault}
use Rattle.interpolator_laws.proofs.prepared.a_checked_format_means_no_fault_over_rows.Goals as goal

pub returns : goal.returns
returns g c = means_no_fault g.S.Value.shows g.V.Value.shows
