use Rattle.std.proofs.Common.{arith}
use Rattle.interpolator_render.specs.Texts.{has_no_text}
use Rattle.interpolator_eval.proofs.evaluate.sink.write_plain.Goals as goal

pub returns-in_default : goal.returns-in_default
returns-in_default g c = grind (arith, c.fault_at.ensures.outcome has_no_text)
