use Rattle.interpolator_escapes.proofs.FieldLemmas.{same_fields}
use Rattle.interpolator_escapes.proofs.RecordFormatLemmas.{record_marks, record_read}
use Rattle.interpolator_escapes.proofs.record_laws.whole_fields_come_back.Goals as goal

pub returns : goal.returns
returns g c = record {
  read = λ e a stands none. record_read g.V.Value.shows e a stands none;
  separators = λ e a stands none. record_marks g.V.Value.shows e a stands none;
  fields = same_fields;
}
