use Rattle.std.proofs.Common.{arith}
use Rattle.interpolator_pieces.proofs.RunLemmas.{cut_of}
use Rattle.interpolator_pieces.proofs.piece_text.cut.Goals as goal

pub range-requires-clause-start_le_end : goal.range-requires-clause-start_le_end
range-requires-clause-start_le_end c = grind (arith, cut_of)

pub range-requires-clause-start_boundary : goal.range-requires-clause-start_boundary
range-requires-clause-start_boundary c some = (cut_of _ _ _ c.requires.fits).first

pub range-requires-clause-end_boundary : goal.range-requires-clause-end_boundary
range-requires-clause-end_boundary c = (cut_of _ _ _ c.requires.fits).last

pub returns-clause-text : goal.returns-clause-text
returns-clause-text c = grind (arith, cut_of)
