use Rattle.std.proofs.Common.{arith, refl}
use Rattle.interpolator_eval.proofs.context_map.NameMap.lend_or_add.Goals as goal

pub returns : goal.returns
returns g c = (
  (
    refl,
    λ last _. grind (arith, rw c.in-Some.is at (c.lend.follows.holds last)),
    tt,
  ),
  grind arith,
)
