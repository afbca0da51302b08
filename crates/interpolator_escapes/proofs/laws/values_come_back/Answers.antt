use Rattle.interpolator_escapes.specs.{Escapes.escape_of, Languages.language}
use Rattle.interpolator_escapes.proofs.LanguageLemmas.{keeps, keeps_plain}
use Rattle.interpolator_escapes.proofs.ReaderLemmas.{parts_read}
use Rattle.interpolator_escapes.proofs.laws.values_come_back.Goals as goal

pub returns : goal.returns
returns c = λ escape. let l = language escape in
    parts_read l.step l.is_place (escape_of escape) (keeps escape) (keeps_plain escape) l.start
