use Rattle.std.proofs.{Common.arith, Common.rules, lemmas.Result.err_from_is_err_and}
use Rattle.interpolator_pieces.specs.declared.piece.Piece.TheViews.{size-Piece}
use Rattle.interpolator_pieces.proofs.StoredLemmas.{node_of_out, left_next, left_none}
use Rattle.interpolator_pieces.proofs.WalkLemmas.{walks_one, walks_then, walks_stop, walks_on}
use Rattle.interpolator_pieces.proofs.WalkLemmas.{piece_depth, piece_within, group_fits}
use Rattle.interpolator_pieces.proofs.WholePieceLemmas.{item_smaller, join_smaller, group_smaller}
use Rattle.interpolator_pieces.proofs.WholePieceLemmas.{piece_whole, most_at, fits_text}
use Rattle.interpolator_pieces.proofs.WholePieceLemmas.{group_whole}
use Rattle.interpolator_pieces.proofs.walk.+walk.Goals as goal

-- ---- pieces in order

pub walk-walk_piece-requires : goal.walk-walk_piece-requires
walk-walk_piece-requires g t c κs within =
    grind (arith, piece_whole, piece_within, most_at size-Piece, within)

pub walk-returns-in_err-walk_piece : goal.walk-returns-in_err-walk_piece
walk-returns-in_err-walk_piece g t c =
    grind (arith, err_from_is_err_and, left_next, walks_stop, c.loop-piece.invariant)

pub walk-loop-piece-preserved : goal.walk-loop-piece-preserved
walk-loop-piece-preserved g t c = λ new answer h.
    grind (arith, left_next, walks_on, c.loop-piece.invariant new answer)

pub walk-returns : goal.walk-returns
walk-returns g t c = grind (arith, left_none, c.loop-piece.invariant)

-- ---- one piece

pub walk_piece-walk_group-requires : goal.walk_piece-walk_group-requires
walk_piece-walk_group-requires g t c κs within =
    let x = c.args.piece.now in
    let fits = fits_text c.args.text.now x (search rules) in
    let depth = piece_depth c.args.text.now x in
    grind (arith, item_smaller x, fits.item, depth, within)

pub walk_piece-walk_group-requires-2 : goal.walk_piece-walk_group-requires-2
walk_piece-walk_group-requires-2 g t c κs within =
    let x = c.args.piece.now in
    let fits = fits_text c.args.text.now x (search rules) in
    let depth = piece_depth c.args.text.now x in
    grind (arith, join_smaller x, fits.join, depth, within)

pub walk_piece-returns-in_err-enter : goal.walk_piece-returns-in_err-enter
walk_piece-returns-in_err-enter g t c = grind (arith, err_from_is_err_and, node_of_out)

pub walk_piece-returns-in_err-walk_group :
    goal.walk_piece-returns-in_err-walk_group
walk_piece-returns-in_err-walk_group g t c =
    grind (arith, err_from_is_err_and, node_of_out, walks_then, walks_stop)

pub walk_piece-returns-in_err-walk_group-2 :
    goal.walk_piece-returns-in_err-walk_group-2
walk_piece-returns-in_err-walk_group-2 g t c =
    grind (arith, err_from_is_err_and, node_of_out, walks_then, walks_on, walks_stop)

pub walk_piece-returns : goal.walk_piece-returns
walk_piece-returns g t c = grind (arith, node_of_out, walks_then, walks_on, walks_one)

-- ---- a group

pub walk_group-walk-requires : goal.walk_group-walk-requires
walk_group-walk-requires g t c κs within =
    grind (arith, group_smaller, group_whole, group_fits, within)
