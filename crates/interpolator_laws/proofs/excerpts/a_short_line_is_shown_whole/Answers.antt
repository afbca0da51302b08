use Rattle.interpolator.proofs.ExcerptLemmas.{whole_line}
use Rattle.interpolator_laws.proofs.excerpts.a_short_line_is_shown_whole.Goals as goal

pub returns : goal.returns
returns c = whole_line
