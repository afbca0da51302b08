use Rattle.std.proofs.Common.{arith}
use Rattle.interpolator_pieces.proofs.{PlainPieceLemmas.text_piece_is, RunLemmas.text_fits}
use Rattle.interpolator_pieces.proofs.{StoredLemmas.detail_bare, WholePieceLemmas.fits_text}
use Rattle.interpolator_pieces.proofs.stored_groups.text_piece.Goals as goal

pub text_of-requires : goal.text_of-requires
text_of-requires c = grind (arith, text_fits, detail_bare, fits_text)

pub invariant_of-result : goal.invariant_of-result
invariant_of-result c = grind (arith, detail_bare)

pub returns-in-Literal : goal.returns-in-Literal
returns-in-Literal c = grind (arith, detail_bare, text_piece_is c.args.text.now c.args.piece.now)
