use Rattle.std.specs.Str.{chars}
use Rattle.interpolator_escapes.proofs.laid.lay_line.Goals as goal

pub returns-then-c-eq92-clause-text : goal.returns-then-c-eq92-clause-text
unfolding chars
returns-then-c-eq92-clause-text c = rw c.if-c-eq92.true c.lay.ensures.text

pub returns-then-c-eq10-clause-text : goal.returns-then-c-eq10-clause-text
unfolding chars
returns-then-c-eq10-clause-text c = rw c.if-c-eq10.true c.lay-then-c-eq10.ensures.text

pub returns-then-c-eq13-clause-text : goal.returns-then-c-eq13-clause-text
unfolding chars
returns-then-c-eq13-clause-text c = rw c.if-c-eq13.true c.lay-then-c-eq13.ensures.text

pub returns-then-c-eq9-clause-text : goal.returns-then-c-eq9-clause-text
unfolding chars
returns-then-c-eq9-clause-text c = rw c.if-c-eq9.true c.lay-then-c-eq9.ensures.text
