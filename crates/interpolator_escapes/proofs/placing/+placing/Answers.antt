use Rattle.std.proofs.Common.{rules, arith, ◌≡◌, ◌<◌, length, true}
use Rattle.std.proofs.lemmas.Result.{err_from_is_err_and}
use Rattle.interpolator_pieces.specs.declared.piece.Piece.TheViews.{out-Piece, size-Piece}
use Rattle.interpolator_pieces.specs.{Stored.detail_of, StoredLists.is_list_form}
use Rattle.interpolator_pieces.proofs.RunLemmas.{text_fits}
use Rattle.interpolator_pieces.proofs.WholePieceLemmas.{fits_text, piece_whole, most_at, in_item}
use Rattle.interpolator_pieces.proofs.WholePieceLemmas.{in_join}
use Rattle.interpolator_escapes.proofs.PlacingLemmas.{text_reported, broken_reported}
use Rattle.interpolator_escapes.proofs.PlacingLemmas.{value_reported}
use Rattle.interpolator_escapes.proofs.PlacingLemmas.{plain_reported, item_reported, join_reported}
use Rattle.interpolator_escapes.proofs.PlacingLemmas.{fill_reported}
use Rattle.interpolator_escapes.proofs.PlacingLemmas.{lies, list_lies, plain_lies, value_lies}
use Rattle.interpolator_escapes.specs.declared.misplaced.Why.TheVariants.{Value, Item, Join, Fill}
use Rattle.interpolator_escapes.proofs.placing.+placing.Goals as goal

pub place_all-place_piece-requires : goal.place_all-place_piece-requires
place_all-place_piece-requires g t c κs within =
    grind (arith, piece_whole, most_at size-Piece, within)

pub place_item-place_all-requires : goal.place_item-place_all-requires
place_item-place_all-requires g t c κs within =
    let group = in_item c.args.text.now c.args.piece.now _ c.deref.result.now
    c.deref.ensures.value (search rules) c.in-Some.is in
    let smaller = group.smaller in
    grind (arith, smaller, group.whole, within)

pub place_join-place_all-requires : goal.place_join-place_all-requires
place_join-place_all-requires g t c κs within =
    let group = in_join c.args.text.now c.args.piece.now _ c.deref.result.now
    c.deref.ensures.value (search rules) c.in-Some.is in
    let smaller = group.smaller in
    grind (arith, smaller, group.whole, within)

pub place_list-returns-in_err-place_item-clause-reported :
    goal.place_list-returns-in_err-place_item-clause-reported
place_list-returns-in_err-place_item-clause-reported g t c =
    let fits = fits_text c.args.text.now c.args.piece.now (search rules) in
    let p = err_from_is_err_and c.from_residual.result c.from_residual.ensures.1 in
    rw (p.1, p.2)
    (item_reported g.R.Reader.step g.R.Reader.places c.args.text.now c.args.piece.now
    (g.R.Reader.state c.args.reader.now) fits.held (search rules) _
    c.in_err-place_item.ensures.reported)

pub place_list-returns-in_err-place_join-clause-reported :
    goal.place_list-returns-in_err-place_join-clause-reported
place_list-returns-in_err-place_join-clause-reported g t c =
    let fits = fits_text c.args.text.now c.args.piece.now (search rules) in
    let p = err_from_is_err_and c.from_residual-in_err-place_join.result
    c.from_residual-in_err-place_join.ensures.1 in
    rw (p.1, p.2)
    (join_reported g.R.Reader.step g.R.Reader.places c.args.text.now c.args.piece.now
    (g.R.Reader.state c.args.reader.now) fits.held (search rules) _
    c.in_ok-place_item.ensures.reported c.in_err-place_join.ensures.reported)

pub place_list-returns-clause-reported : goal.place_list-returns-clause-reported
place_list-returns-clause-reported g t c =
    let fits = fits_text c.args.text.now c.args.piece.now (search rules) in
    fill_reported g.R.Reader.step g.R.Reader.places c.args.text.now c.args.piece.now
    (g.R.Reader.state c.args.reader.now) fits.held (search rules) _ _ c.spec_of.ensures
    c.in_ok-place_item.ensures.reported c.in_ok-place_join.ensures.reported c.place_fill.ensures

pub place_piece-text_of-requires : goal.place_piece-text_of-requires
place_piece-text_of-requires g t c = grind (arith, text_fits, fits_text)

pub place_piece-returns-in-Text-clause-reported : goal.place_piece-returns-in-Text-clause-reported
place_piece-returns-in-Text-clause-reported g t c =
    text_reported g.R.Reader.step g.R.Reader.places c.args.text.now c.args.piece.now
    (g.R.Reader.state c.args.reader.now) _ _ _ (search rules) c.text_of.ensures.text
    c.read_text.ensures

pub place_piece-returns-in-Plain-clause-reported :
    goal.place_piece-returns-in-Plain-clause-reported
place_piece-returns-in-Plain-clause-reported g t c =
    let fits = fits_text c.args.text.now c.args.piece.now (search rules) in
    plain_reported g.R.Reader.step g.R.Reader.places c.args.text.now c.args.piece.now
    (g.R.Reader.state c.args.reader.now) fits.held _ (search rules) c.place_plain.ensures

pub place_piece-returns-in-Value-clause-reported :
    goal.place_piece-returns-in-Value-clause-reported
place_piece-returns-in-Value-clause-reported g t c =
    let fits = fits_text c.args.text.now c.args.piece.now (search rules) in
    value_reported g.R.Reader.step g.R.Reader.places c.args.text.now c.args.piece.now
    (g.R.Reader.state c.args.reader.now) fits.held c.in-Value.wanted _ _ (search rules)
    c.spec_of.ensures c.place_value.ensures

pub place_piece-returns-in-Broken-clause-reported : goal.place_piece-returns-in-Broken-clause-reported
place_piece-returns-in-Broken-clause-reported g t c =
    broken_reported g.R.Reader.step g.R.Reader.places c.args.text.now c.args.piece.now
    (g.R.Reader.state c.args.reader.now) c.in-Broken.field-0 (search rules)

-- ---- where what does not stand begins

pub place_piece-place_list-requires : goal.place_piece-place_list-requires
place_piece-place_list-requires g t c κs within =
    let fits = fits_text c.args.text.now c.args.piece.now (search rules) in
    let listed : is_list_form (detail_of c.args.piece.now).form ≡ true = search rules in
    let here = list_lies c.args.text.now c.args.piece.now fits.held listed in
    grind (arith, here, within)

pub place_piece-returns-in-Plain-clause-within : goal.place_piece-returns-in-Plain-clause-within
place_piece-returns-in-Plain-clause-within g t c =
    let fits = fits_text c.args.text.now c.args.piece.now (search rules) in
    let here = plain_lies c.args.text.now c.args.piece.now fits.held (search rules) in
    lies _ _ Value _ _ c.place_plain.result here c.place_plain.ensures

pub place_piece-returns-in-Value-clause-within : goal.place_piece-returns-in-Value-clause-within
place_piece-returns-in-Value-clause-within g t c =
    let fits = fits_text c.args.text.now c.args.piece.now (search rules) in
    let here = value_lies c.args.text.now c.args.piece.now fits.held c.in-Value.wanted
    (search rules) in
    lies _ _ Value _ _ c.place_value.result here c.place_value.ensures

pub place_item-returns-in-None-clause-within : goal.place_item-returns-in-None-clause-within
place_item-returns-in-None-clause-within g t c =
    let here : (out-Piece c.args.piece.now).place < length c.args.text.now = search rules in
    lies _ _ Value _ _ c.place_plain.result here c.place_plain.ensures

pub place_item-returns-in_ok-place_all-in-Some-clause-within :
    goal.place_item-returns-in_ok-place_all-in-Some-clause-within
place_item-returns-in_ok-place_all-in-Some-clause-within g t c =
    let here : (out-Piece c.args.piece.now).place < length c.args.text.now = search rules in
    lies _ _ Item _ _ c.require_at.result here c.require_at.ensures

pub place_join-returns-in_ok-place_all-in-Some-clause-within :
    goal.place_join-returns-in_ok-place_all-in-Some-clause-within
place_join-returns-in_ok-place_all-in-Some-clause-within g t c =
    let here : (out-Piece c.args.piece.now).place < length c.args.text.now = search rules in
    lies _ _ Join _ _ c.require_at.result here c.require_at.ensures

pub place_list-returns-clause-within : goal.place_list-returns-clause-within
place_list-returns-clause-within g t c =
    let here : (out-Piece c.args.piece.now).place < length c.args.text.now = search rules in
    lies _ _ Fill _ _ c.place_fill.result here c.place_fill.ensures
