use Rattle.std.proofs.{Common.arith, lemmas.Grind.common_steps, lemmas.Str.chars-nil}
use Rattle.interpolator_pieces.proofs.{PlainPieceLemmas.bare_piece_is, RunLemmas.name_fits}
use Rattle.interpolator_pieces.proofs.{StoredLemmas.detail_bare, WholePieceLemmas.fits_text}
use Rattle.interpolator_pieces.proofs.stored_groups.closing_place.Goals as goal

pub name_of-requires : goal.name_of-requires
name_of-requires c = grind (arith, name_fits, detail_bare, fits_text)

pub returns-then-is_empty : goal.returns-then-is_empty
returns-then-is_empty c =
    grind (arith, common_steps, chars-nil, bare_piece_is c.args.text.now c.args.piece.now)
