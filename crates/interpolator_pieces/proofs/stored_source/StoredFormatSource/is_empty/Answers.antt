use Rattle.interpolator_pieces.proofs.RunLemmas.{pieces_hold}
use Rattle.interpolator_pieces.proofs.stored_source.StoredFormatSource.is_empty.Goals as goal

pub returns : goal.returns
returns c = rw c.is_empty.ensures (pieces_hold _ _ c.args.self.now.fits)
