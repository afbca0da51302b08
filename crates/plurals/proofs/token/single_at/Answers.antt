use Rattle.std.proofs.{Common.arith, lemmas.Grind.common_steps}
use Rattle.plurals.proofs.TokenLemmas.{boundary_after}
use Rattle.plurals.proofs.token.single_at.Goals as goal

pub split_at-requires : goal.split_at-requires
split_at-requires c = grind (arith, common_steps, boundary_after)
