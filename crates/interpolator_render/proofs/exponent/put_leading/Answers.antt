use Rattle.std.proofs.{Common.arith, lemmas.List.length-replicate}
use Rattle.interpolator_digits.proofs.DigitLemmas.{digit_text_some, one_count}
use Rattle.interpolator_render.proofs.ExponentRowLemmas.{more_digits, leading_pieces, alone_pieces}
use Rattle.interpolator_render.proofs.exponent.put_leading.Goals as goal

pub returns-then-zeros-eq0 : goal.returns-then-zeros-eq0
returns-then-zeros-eq0 c = grind (arith, length-replicate, one_count, alone_pieces)

pub returns : goal.returns
returns c = grind (arith, length-replicate, digit_text_some, more_digits, leading_pieces)
