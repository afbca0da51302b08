use Rattle.interpolator_escapes.proofs.FieldRowLemmas.{row_read}
use Rattle.interpolator_escapes.proofs.record_laws.a_list_is_a_record_of_fields.Goals as goal

pub returns : goal.returns
returns g c = row_read g.V.Value.shows
