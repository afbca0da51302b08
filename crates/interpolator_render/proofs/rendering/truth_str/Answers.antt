use Rattle.std.proofs.Common.{refl}
use Rattle.std.specs.Str.{chars}
use Rattle.interpolator_render.proofs.rendering.truth_str.Goals as goal

pub returns-then-truth : goal.returns-then-truth
unfolding chars
returns-then-truth c = rw c.if-truth.true refl

pub returns-else-truth : goal.returns-else-truth
unfolding chars
returns-else-truth c = rw c.if-truth.false refl
