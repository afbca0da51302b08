use Rattle.std.specs.Str.{chars}
use Rattle.interpolator_escapes.proofs.laid.lay_shell.Goals as goal

pub returns-then-c-eq39-clause-text : goal.returns-then-c-eq39-clause-text
unfolding chars
returns-then-c-eq39-clause-text c = rw c.if-c-eq39.true c.lay.ensures.text
