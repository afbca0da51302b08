use Rattle.interpolator_laws.proofs.RowSampleLemmas.{row_means}
use Rattle.interpolator_laws.proofs.prepared.a_row_means_what_its_pairs_do.Goals as goal

pub returns : goal.returns
returns g c = λ names row a h. row_means g.V.Value.shows row names a h
