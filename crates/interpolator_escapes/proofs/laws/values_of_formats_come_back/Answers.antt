use Rattle.interpolator_escapes.specs.FormatParts.{as_it_is, escaped_value}
use Rattle.interpolator_escapes.specs.{Escapes.escape_of, Languages.language}
use Rattle.interpolator_escapes.proofs.FormatPartLemmas.{escaped_parts, plain_parts, format_read}
use Rattle.interpolator_escapes.proofs.PartValueLemmas.{same_values}
use Rattle.interpolator_escapes.proofs.LanguageLemmas.{keeps, keeps_plain, inner, whole}
use Rattle.interpolator_escapes.proofs.laws.values_of_formats_come_back.Goals as goal

pub returns : goal.returns
returns g c = record {
  plain = plain_parts g.V.Value.shows;
  escaped = λ escape. escaped_parts escape g.V.Value.shows;
  values = λ escape. same_values (escape_of escape) as_it_is (escaped_value escape g.V.Value.shows);
  read = λ escape e a h. let l = language escape in
      format_read l.step l.is_place escape (keeps escape) (keeps_plain escape) (inner escape)
      (whole escape) g.V.Value.shows e a l.start h.0 h.1;
}
