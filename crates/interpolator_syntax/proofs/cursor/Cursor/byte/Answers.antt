use Rattle.std.proofs.{Common.arith, lemmas.Grind.common_steps}
use Rattle.interpolator_syntax.proofs.FirstByteLemmas.{byte_reported}
use Rattle.interpolator_syntax.proofs.cursor.Cursor.byte.Goals as goal

pub returns : goal.returns
returns c = grind (arith, common_steps, byte_reported)
