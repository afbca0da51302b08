use Rattle.std.proofs.Common.{arith}
use Rattle.interpolator_pieces.proofs.WholeLemmas.{nodes_whole}
use Rattle.interpolator_escapes.proofs.records.check_record_pieces.Goals as goal

pub after_pieces-requires : goal.after_pieces-requires
after_pieces-requires c = grind (arith, nodes_whole)
