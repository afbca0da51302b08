use Rattle.std.proofs.lemmas.Str.{chars-nil, encodes-chars}
use Rattle.std.proofs.{Common.arith, lemmas.Grind.common_steps}
use Rattle.interpolator_eval.proofs.evaluate.environment.Environment+C+C+Object.inner.Goals as goal

pub returns-then-is_empty : goal.returns-then-is_empty
returns-then-is_empty g c = grind (arith, common_steps, chars-nil)

pub returns-else-is_empty : goal.returns-else-is_empty
returns-else-is_empty g c = grind (arith, encodes-chars c.args.name.now c.utf8.name)
