use Rattle.std.proofs.Common.{length-append, arith}
use Rattle.std.proofs.{lemmas.List.length-replicate, lemmas.Str.chars-IsAscii}
use Rattle.interpolator_render.proofs.DecimalRowLemmas.{decimal_parts}
use Rattle.interpolator_render.proofs.decimal_parts.put_padded_decimal.Goals as goal

pub returns : goal.returns
returns g c = grind (arith, chars-IsAscii, length-replicate, length-append, decimal_parts)
