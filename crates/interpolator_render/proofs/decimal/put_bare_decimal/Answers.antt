use Rattle.std.proofs.Common.{append_assoc, append-nil, arith, length-append}
use Rattle.interpolator_render.proofs.{DecimalRowLemmas.few_after, ExponentRowLemmas.decimal_digits}
use Rattle.interpolator_render.proofs.decimal.put_bare_decimal.Goals as goal

pub put_sign-requires : goal.put_sign-requires
put_sign-requires g c = grind (arith, few_after, decimal_digits, length-append)

pub returns : goal.returns
returns g c = grind (arith, append-nil, append_assoc)
