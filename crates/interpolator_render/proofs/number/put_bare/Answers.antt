use Rattle.std.proofs.Common.{arith}
use Rattle.interpolator_digits.proofs.DigitLemmas.{one_alone}
use Rattle.interpolator_render.proofs.number.put_bare.Goals as goal

pub returns-then-n-lt10 : goal.returns-then-n-lt10
returns-then-n-lt10 g c = rw (one_alone c.args.n (omega arith)) c.put_char.ensures
