use Rattle.std.proofs.Common.{arith}
use Rattle.std.specs.Str.{chars}
use Rattle.interpolator_render.proofs.WrittenLemmas.{chars-encode}
use Rattle.interpolator_render.proofs.quoting.put_letter.Goals as goal

pub returns : goal.returns
unfolding chars
returns g c = grind (arith, chars-encode)
