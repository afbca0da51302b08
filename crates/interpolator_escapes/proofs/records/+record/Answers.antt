use Rattle.std.proofs.Common.{rules, arith, Ok, refl}
use Rattle.std.proofs.lemmas.Result.{err_from_is_err_and}
use Rattle.interpolator_pieces.specs.declared.piece.Piece.TheViews.{size-Piece}
use Rattle.interpolator_pieces.proofs.RunLemmas.{text_fits}
use Rattle.interpolator_pieces.proofs.WholePieceLemmas.{fits_text, piece_whole, most_at}
use Rattle.interpolator_pieces.proofs.WholePieceLemmas.{in_item, in_join}
use Rattle.interpolator_escapes.specs.CodeRecords.{spot_of}
use Rattle.interpolator_escapes.proofs.RecordPieceLemmas.{broken_answer, items_stop, joins_stop}
use Rattle.interpolator_escapes.proofs.RecordPieceLemmas.{list_answer, plain_answer, text_answer}
use Rattle.interpolator_escapes.proofs.RecordPieceLemmas.{value_answer}
use Rattle.interpolator_escapes.proofs.records.+record.Goals as goal

pub after_pieces-after_piece-requires : goal.after_pieces-after_piece-requires
after_pieces-after_piece-requires t c = grind (arith, piece_whole, most_at size-Piece)

pub after_item-after_pieces-requires : goal.after_item-after_pieces-requires
after_item-after_pieces-requires t c =
    let group = in_item c.args.text.now c.args.piece.now _ c.deref.result.now
    c.deref.ensures.value (search rules) c.in-Some.is in
    let smaller = group.smaller in
    grind (arith, smaller, group.whole)

pub after_join-after_pieces-requires : goal.after_join-after_pieces-requires
after_join-after_pieces-requires t c =
    let group = in_join c.args.text.now c.args.piece.now _ c.deref.result.now
    c.deref.ensures.value (search rules) c.in-Some.is in
    let smaller = group.smaller in
    grind (arith, smaller, group.whole)

pub after_piece-text_of-requires : goal.after_piece-text_of-requires
after_piece-text_of-requires t c = grind (arith, text_fits, fits_text)

pub after_piece-returns-in-Text : goal.after_piece-returns-in-Text
after_piece-returns-in-Text t c =
    text_answer c.args.text.now c.args.piece.now (spot_of c.args.spot) _ _ (search rules)
    c.text_of.ensures.text c.after_literal.ensures

pub after_piece-returns-in-Plain : goal.after_piece-returns-in-Plain
after_piece-returns-in-Plain t c =
    let fits = fits_text c.args.text.now c.args.piece.now (search rules) in
    plain_answer c.args.text.now c.args.piece.now (spot_of c.args.spot) _ fits.held (search rules)
    c.after_plain.ensures

pub after_piece-returns-in-Value : goal.after_piece-returns-in-Value
after_piece-returns-in-Value t c =
    let fits = fits_text c.args.text.now c.args.piece.now (search rules) in
    value_answer c.args.text.now c.args.piece.now (spot_of c.args.spot) _ fits.held
    c.in-Value.wanted _ (search rules) c.spec_of.ensures c.after_value.ensures

pub after_piece-returns-in-Broken : goal.after_piece-returns-in-Broken
after_piece-returns-in-Broken t c =
    broken_answer c.args.text.now c.args.piece.now (spot_of c.args.spot) (Ok c.args.spot)
    c.in-Broken.field-0 (search rules) refl

pub after_list-returns-in_err-end : goal.after_list-returns-in_err-end
after_list-returns-in_err-end t c =
    let fits = fits_text c.args.text.now c.args.piece.now (search rules) in
    let p = err_from_is_err_and c.from_residual.result c.from_residual.ensures.1 in
    rw (p.1, p.2)
    (items_stop c.args.text.now c.args.piece.now (spot_of c.args.start) (Ok c.args.start) fits.held
    (search rules) _ c.in_err-end.ensures)

pub after_list-returns-in_err-next : goal.after_list-returns-in_err-next
after_list-returns-in_err-next t c =
    let fits = fits_text c.args.text.now c.args.piece.now (search rules) in
    let p = err_from_is_err_and c.from_residual-in_err-next.result
    c.from_residual-in_err-next.ensures.1 in
    rw (p.1, p.2)
    (joins_stop c.args.text.now c.args.piece.now (spot_of c.args.start) (Ok c.args.start) fits.held
    (search rules) c.in_ok-end.end _ c.in_ok-end.ensures c.in_err-next.ensures)

pub after_list-returns : goal.after_list-returns
after_list-returns t c =
    let fits = fits_text c.args.text.now c.args.piece.now (search rules) in
    list_answer c.args.text.now c.args.piece.now (spot_of c.args.start) _ fits.held (search rules)
    c.in_ok-end.end c.in_ok-next.next _ c.spec_of.ensures c.in_ok-end.ensures
    c.in_ok-next.ensures c.list_end.ensures
