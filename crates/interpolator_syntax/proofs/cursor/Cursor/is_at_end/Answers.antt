use Rattle.std.proofs.{Common.arith, lemmas.Grind.common_steps}
use Rattle.interpolator_syntax.proofs.FirstByteLemmas.{ends_reported}
use Rattle.interpolator_syntax.proofs.cursor.Cursor.is_at_end.Goals as goal

pub returns : goal.returns
returns c = grind (arith, common_steps, ends_reported)
