use Rattle.interpolator_escapes.proofs.LanguageLemmas.{keeps, keeps_plain}
use Rattle.interpolator_escapes.proofs.laws.escaped_characters_are_read_back.Goals as goal

pub returns : goal.returns
returns c = record { shown = keeps; plain = keeps_plain }
