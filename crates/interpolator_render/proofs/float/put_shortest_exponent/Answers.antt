use Rattle.std.proofs.Common.{arith}
use Rattle.interpolator_digits.proofs.DigitLemmas.{digit_text_some}
use Rattle.interpolator_render.proofs.float.put_shortest_exponent.Goals as goal

pub put_form-requires-clause-some : goal.put_form-requires-clause-some
put_form-requires-clause-some g c = grind (arith, digit_text_some)
