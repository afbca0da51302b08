use Rattle.std.proofs.Common.{arith}
use Rattle.interpolator_render.proofs.WrittenLemmas.{chars-encode}
use Rattle.interpolator_escapes.proofs.room.Room.lay_char.Goals as goal

pub returns-clause-text : goal.returns-clause-text
returns-clause-text c = let one = chars-encode c.args.c c.ranges.c.0 in grind arith
