use Rattle.std.proofs.Common.{arith}
use Rattle.interpolator_pieces.proofs.WholePieceLemmas.{both}
use Rattle.interpolator_pieces.proofs.stored_groups.plain_pieces.Goals as goal

pub closing_place-requires : goal.closing_place-requires
closing_place-requires c = grind (arith, both)
