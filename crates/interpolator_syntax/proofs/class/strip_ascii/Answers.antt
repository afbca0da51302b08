use Rattle.std.proofs.{lemmas.Grind.common_steps, Common.arith}
use Rattle.interpolator_syntax.proofs.StripLemmas.{boundary_after}
use Rattle.interpolator_syntax.proofs.class.strip_ascii.Goals as goal

pub split_at-requires : goal.split_at-requires
split_at-requires c = grind (arith, common_steps, boundary_after)
