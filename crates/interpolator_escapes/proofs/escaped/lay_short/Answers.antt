use Rattle.std.proofs.Common.{arith, append-nil}
use Rattle.std.specs.Str.{chars}
use Rattle.interpolator_escapes.proofs.escaped.lay_short.Goals as goal

pub returns-in-None-clause-same : goal.returns-in-None-clause-same
unfolding chars
returns-in-None-clause-same c = let plain = c.in-None.ensures.parts in grind (arith, append-nil)
