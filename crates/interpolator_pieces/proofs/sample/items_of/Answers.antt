use Rattle.std.proofs.Common.{arith}
use Rattle.interpolator_pieces.proofs.{RunLemmas.list_fits, WholePieceLemmas.fits_text}
use Rattle.interpolator_pieces.proofs.sample.items_of.Goals as goal

pub name_of-requires : goal.name_of-requires
name_of-requires g c = grind (arith, list_fits, fits_text)
