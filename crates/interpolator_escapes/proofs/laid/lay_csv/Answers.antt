use Rattle.std.specs.Str.{chars}
use Rattle.interpolator_escapes.proofs.laid.lay_csv.Goals as goal

pub returns-then-c-eq34-clause-text : goal.returns-then-c-eq34-clause-text
unfolding chars
returns-then-c-eq34-clause-text c = rw c.if-c-eq34.true c.lay.ensures.text
