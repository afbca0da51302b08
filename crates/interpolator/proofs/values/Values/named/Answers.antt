use Rattle.std.proofs.Common.{refl}
use Rattle.interpolator.proofs.values.Values.named.Goals as goal

pub returns : goal.returns
returns c = rw (c.min.ensures) refl
