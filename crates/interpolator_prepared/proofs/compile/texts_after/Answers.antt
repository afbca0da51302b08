use Rattle.interpolator_prepared.proofs.CompileLemmas.{text_count_le}
use Rattle.interpolator_prepared.proofs.compile.texts_after.Goals as goal

pub returns-clause-within : goal.returns-clause-within
returns-clause-within c = rw c.text_count.ensures (text_count_le c.args.after.now)
