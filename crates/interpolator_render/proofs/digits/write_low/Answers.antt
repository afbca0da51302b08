use Rattle.std.proofs.Common.{arith}
use Rattle.interpolator_digits.proofs.DigitLemmas.{digit_text_some, digit_count_step}
use Rattle.interpolator_digits.proofs.DigitLemmas.{digit_text_one, led, take_less}
use Rattle.interpolator_render.proofs.digits.write_low.Goals as goal

pub loop-rest-preserved : goal.loop-rest-preserved
loop-rest-preserved c = grind (arith, digit_count_step, take_less)

pub returns-clause-leads : goal.returns-clause-leads
returns-clause-leads c = grind (arith, led, digit_text_some, digit_text_one)

pub returns-clause-written : goal.returns-clause-written
returns-clause-written c = grind (arith, led, digit_text_some, digit_text_one)
