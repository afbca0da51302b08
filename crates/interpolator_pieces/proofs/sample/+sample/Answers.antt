use Rattle.std.proofs.Common.{rules, arith, Some, None}
use Rattle.std.proofs.lemmas.Result.{err_from_is_err_and}
use Rattle.interpolator_syntax.specs.Faults.{answer_of}
use Rattle.interpolator_eval.specs.Meaning.Samples.{sample_of}
use Rattle.interpolator_pieces.proofs.CollectLemmas.{collects_nothing, collects_before}
use Rattle.interpolator_pieces.proofs.CollectLemmas.{collects_after}
use Rattle.interpolator_pieces.proofs.CollectLemmas.{asked_ends, own_ends, item_ends}
use Rattle.interpolator_pieces.proofs.CollectLemmas.{join_ends, last_reported, group_deep}
use Rattle.interpolator_pieces.proofs.CollectLemmas.{item_reported}
use Rattle.interpolator_pieces.proofs.StoredLemmas.{left_next, left_none}
use Rattle.interpolator_pieces.proofs.WalkLemmas.{piece_depth, piece_within}
use Rattle.interpolator_pieces.proofs.WholePieceLemmas.{in_item, in_join, fits_text}
use Rattle.interpolator_pieces.proofs.WholePieceLemmas.{piece_whole, most_at}
use Rattle.interpolator_pieces.proofs.piece.Piece.TheLaws.{the_size}
use Rattle.interpolator_pieces.proofs.sample.+sample.Goals as goal

-- ---- pieces in order

pub collect_pieces-loop-piece-init : goal.collect_pieces-loop-piece-init
collect_pieces-loop-piece-init g t c = λ new r k. k

pub collect_pieces-collect_piece-requires : goal.collect_pieces-collect_piece-requires
collect_pieces-collect_piece-requires g t c κs within =
    grind (arith, piece_whole, piece_within, most_at the_size, within)

pub collect_pieces-returns-in_err-collect_piece : goal.collect_pieces-returns-in_err-collect_piece
collect_pieces-returns-in_err-collect_piece g t c =
    let ends = c.loop-piece.invariant c.collect_piece.new.collector
    (Some (answer_of c.in_err-collect_piece.field-0.0)) in
    grind (arith, err_from_is_err_and, left_next, collects_before, ends)

pub collect_pieces-loop-piece-preserved : goal.collect_pieces-loop-piece-preserved
collect_pieces-loop-piece-preserved g t c = λ new r k.
    grind (arith, left_next, collects_after, c.loop-piece.invariant new r)

pub collect_pieces-returns : goal.collect_pieces-returns
collect_pieces-returns g t c =
    grind (arith, left_none, collects_nothing, c.loop-piece.invariant c.loop-piece.collector None)

-- ---- one piece

pub collect_piece-returns-then-is_plainly_right : goal.collect_piece-returns-then-is_plainly_right
collect_piece-returns-then-is_plainly_right g t c = grind (arith, collects_nothing)

pub collect_parts-collect_item-requires : goal.collect_parts-collect_item-requires
collect_parts-collect_item-requires g t c κs within = grind (arith, piece_depth, within)

pub collect_parts-collect_join-requires : goal.collect_parts-collect_join-requires
collect_parts-collect_join-requires g t c κs within = grind (arith, piece_depth, within)

pub collect_parts-returns-in_err-collect_asked : goal.collect_parts-returns-in_err-collect_asked
collect_parts-returns-in_err-collect_asked g t c = grind (arith, err_from_is_err_and, asked_ends)

pub collect_parts-returns-in_err-collect_checked : goal.collect_parts-returns-in_err-collect_checked
collect_parts-returns-in_err-collect_checked g t c =
    let own = c.in_err-collect_checked.ensures _ c.check_own.ensures.own in
    let reported = own_ends g.C.Object.Value.shows (sample_of g.C.Context.finds c.args.sample.now) _
    c.args.piece.now (search rules) c.args.collector.now c.collect_asked.new.collector
    c.in_ok-collect_asked.ensures.collects c.collect_checked.new.self _ own in
    grind (arith, err_from_is_err_and, reported)

pub collect_parts-returns-in_err-collect_item : goal.collect_parts-returns-in_err-collect_item
collect_parts-returns-in_err-collect_item g t c =
    let own = c.in_ok-collect_checked.ensures _ c.check_own.ensures.own in
    let reported = item_ends g.C.Object.Value.shows (sample_of g.C.Context.finds c.args.sample.now)
    c.args.text.now c.args.piece.now (search rules) c.args.collector.now
    c.collect_asked.new.collector c.in_ok-collect_asked.ensures.collects c.collect_checked.new.self
    own c.collect_item.new.collector _ c.in_err-collect_item.ensures.collects in
    grind (arith, err_from_is_err_and, reported)

pub collect_parts-returns-in_err-collect_join : goal.collect_parts-returns-in_err-collect_join
collect_parts-returns-in_err-collect_join g t c =
    let own = c.in_ok-collect_checked.ensures _ c.check_own.ensures.own in
    let reported = join_ends g.C.Object.Value.shows (sample_of g.C.Context.finds c.args.sample.now)
    c.args.text.now c.args.piece.now (search rules) c.args.collector.now
    c.collect_asked.new.collector c.in_ok-collect_asked.ensures.collects c.collect_checked.new.self
    own c.collect_item.new.collector c.in_ok-collect_item.ensures.collects
    c.collect_join.new.collector _ c.in_err-collect_join.ensures.collects in
    grind (arith, err_from_is_err_and, reported)

pub collect_parts-returns : goal.collect_parts-returns
collect_parts-returns g t c =
    let own = c.in_ok-collect_checked.ensures _ c.check_own.ensures.own in
    let last = c.collect_checked-2.ensures _ c.check_end.ensures.end in
    grind (arith, last_reported, own, last)

-- ---- groups

pub collect_item-returns-in-Some : goal.collect_item-returns-in-Some
collect_item-returns-in-Some g t c = grind (arith, fits_text, item_reported)

pub collect_item-collect_pieces-requires : goal.collect_item-collect_pieces-requires
collect_item-collect_pieces-requires g t c κs within =
    let group = in_item c.args.text.now c.args.piece.now _ c.deref.result.now
    c.deref.ensures.value (search rules) c.in-Some.is in grind (arith, group, group_deep, within)

pub collect_join-collect_pieces-requires : goal.collect_join-collect_pieces-requires
collect_join-collect_pieces-requires g t c κs within =
    let group = in_join c.args.text.now c.args.piece.now _ c.deref.result.now
    c.deref.ensures.value (search rules) c.in-Some.is in grind (arith, group, group_deep, within)
