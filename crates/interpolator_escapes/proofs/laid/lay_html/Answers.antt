use Rattle.std.specs.Str.{chars}
use Rattle.interpolator_escapes.proofs.laid.lay_html.Goals as goal

pub returns-then-c-eq38-clause-text : goal.returns-then-c-eq38-clause-text
unfolding chars
returns-then-c-eq38-clause-text c = rw c.if-c-eq38.true c.lay.ensures.text

pub returns-then-c-eq60-clause-text : goal.returns-then-c-eq60-clause-text
unfolding chars
returns-then-c-eq60-clause-text c = rw c.if-c-eq60.true c.lay-then-c-eq60.ensures.text

pub returns-then-c-eq62-clause-text : goal.returns-then-c-eq62-clause-text
unfolding chars
returns-then-c-eq62-clause-text c = rw c.if-c-eq62.true c.lay-then-c-eq62.ensures.text

pub returns-then-c-eq34-clause-text : goal.returns-then-c-eq34-clause-text
unfolding chars
returns-then-c-eq34-clause-text c = rw c.if-c-eq34.true c.lay-then-c-eq34.ensures.text

pub returns-then-c-eq39-clause-text : goal.returns-then-c-eq39-clause-text
unfolding chars
returns-then-c-eq39-clause-text c = rw c.if-c-eq39.true c.lay-then-c-eq39.ensures.text
