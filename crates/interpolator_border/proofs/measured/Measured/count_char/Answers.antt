use Rattle.std.proofs.Common.{arith}
use Rattle.interpolator_render.proofs.WrittenLemmas.{chars-encode}
use Rattle.interpolator_border.proofs.measured.Measured.count_char.Goals as goal

pub returns : goal.returns
returns c = let one = chars-encode c.args.c c.ranges.c.0 in grind arith
