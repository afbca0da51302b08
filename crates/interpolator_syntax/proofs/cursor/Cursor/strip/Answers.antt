use Rattle.std.proofs.{Common.arith, lemmas.Grind.common_steps}
use Rattle.interpolator_syntax.proofs.StripLemmas.{strip_here, strip_other}
use Rattle.interpolator_syntax.proofs.cursor.Cursor.strip.Goals as goal

pub returns-in_err-rest : goal.returns-in_err-rest
returns-in_err-rest c = grind (arith, common_steps, strip_other)

pub returns : goal.returns
returns c = grind (arith, common_steps, strip_here)
