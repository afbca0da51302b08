use Rattle.std.proofs.Common.{length-append, arith}
use Rattle.std.proofs.{lemmas.List.length-replicate, lemmas.Str.chars-IsAscii}
use Rattle.interpolator_render.proofs.NumberLemmas.{number_parts}
use Rattle.interpolator_render.proofs.number_parts.put_padded.Goals as goal

pub returns : goal.returns
returns g c = grind (arith, chars-IsAscii, length-append, length-replicate, number_parts)
