use Rattle.interpolator_eval.proofs.MeaningLemmas.PlainItemLemmas.{text_group}
use Rattle.interpolator_eval.proofs.evaluate.scanned_groups.text_group.Goals as goal

pub returns : goal.returns
returns c = text_group _ _ (rw c.inside.ensures at c.in_ok-text_or_end.ensures)
