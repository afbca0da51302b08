use Rattle.interpolator_escapes.proofs.RowLemmas.{row_read}
use Rattle.interpolator_escapes.proofs.laws.a_list_is_a_record.Goals as goal

pub returns : goal.returns
returns g c = row_read g.V.Value.shows
