use Rattle.std.proofs.Common.{arith}
use Rattle.interpolator_pieces.proofs.RunLemmas.{first_piece}
use Rattle.interpolator_pieces.proofs.stored_source.StoredFormatSource.items.Goals as goal

pub name_of-start-requires : goal.name_of-start-requires
name_of-start-requires g c = grind (arith, first_piece)
