use Rattle.std.proofs.Common.{arith}
use Rattle.interpolator_pieces.proofs.WholePieceLemmas.{both}
use Rattle.interpolator_pieces.proofs.stored_groups.text_first.Goals as goal

pub text_piece-requires : goal.text_piece-requires
text_piece-requires c = grind (arith, both)
