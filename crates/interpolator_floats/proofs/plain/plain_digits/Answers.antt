use Rattle.std.proofs.Common.{arith}
use Rattle.interpolator_floats.proofs.PlainLemmas.{wide}
use Rattle.interpolator_floats.proofs.plain.plain_digits.Goals as goal

pub returns-then-shown-gt19-clause-fits : goal.returns-then-shown-gt19-clause-fits
returns-then-shown-gt19-clause-fits c = wide c.args.shown.digits c.args.shown.down (omega arith) (omega arith)
