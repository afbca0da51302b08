use Rattle.std.proofs.{Common.arith, lemmas.Str.chars-IsAscii}
use Rattle.std.specs.Str.{chars}
use Rattle.interpolator_render.proofs.quoting.put_code.Goals as goal

pub returns : goal.returns
unfolding chars
returns g c = grind (arith, chars-IsAscii)
