use Rattle.folds.proofs.LawLemmas.{as_it_is}
use Rattle.folds.proofs.laws.a_plain_text_is_written_as_it_is.Goals as goal

pub returns : goal.returns
returns c = as_it_is
