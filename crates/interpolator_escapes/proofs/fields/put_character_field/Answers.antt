use Rattle.std.proofs.Common.{arith}
use Rattle.interpolator_render.proofs.WrittenLemmas.{chars-encode}
use Rattle.interpolator_escapes.proofs.fields.put_character_field.Goals as goal

pub returns : goal.returns
returns g c = let one = chars-encode c.args.c c.ranges.c.0 in grind arith
