-- The pieces of a text at another base.
use Rattle.std.proofs.Common.{◌≡◌, ℕ, zero, suc, ◌+◌, List, [], ◌∷◌, length, map, arith, refl, ap}
use Rattle.std.proofs.Common.{◌∙◌}
use Rattle.std.specs.Char.{len_utf8}
use Rattle.interpolator_syntax.specs.Pieces.{Step, argument_from, piece_from, past, pieces_within}
use Rattle.interpolator_syntax.specs.Pieces.{pieces}
use Rattle.interpolator_syntax.specs.{Places.At, Moved.moved_at, Moved.moved_piece}
use Rattle.interpolator_syntax.proofs.{LongestLemmas.at_same, LocalLemmas.step_moved}
use Rattle.interpolator_syntax.proofs.ReaderLemmas.{moves_argument}

module _ (by : ℕ) where
  -- a piece, and the text after it
  abbrev moved_step : Step → Step
  moved_step s = record { piece = moved_piece by s.piece; rest = moved_at by s.rest }

  argument_from_moves : (p : ℕ) (b : At)
      → argument_from (p + by) (moved_at by b) ≡ moved_step (argument_from p b)
  unfolding argument_from
  argument_from_moves p b = grind (arith, moves_argument, step_moved, at_same)

  piece_from_moves : (p c : ℕ) (b : At)
      → piece_from (p + by) c (moved_at by b) ≡ moved_step (piece_from p c b)
  piece_from_moves p c b = grind (arith, argument_from_moves p b)

  first_piece_moves : (p c : ℕ) (cs : List ℕ)
      → piece_from (p + by) c (past (p + by) c cs) ≡ moved_step (piece_from p c (past p c cs))
  first_piece_moves p c cs =
      ap (piece_from (p + by) c) (at_same {cs = cs} (step_moved p by (len_utf8 c)) refl)
      ∙ piece_from_moves p c (past p c cs)

  pieces_within_moves : (most p : ℕ) (cs : List ℕ)
      → pieces_within most (p + by) cs ≡ map (moved_piece by) (pieces_within most p cs)
  pieces_within_moves most p [] = refl
  pieces_within_moves zero p (c ∷ cs) = refl
  pieces_within_moves (suc most) p (c ∷ cs) =
      let s = piece_from p c (past p c cs) in
      rw (first_piece_moves p c cs, pieces_within_moves most s.rest.place s.rest.text) refl

  -- the pieces at another base are the same, moved
  pub pieces_move : (a : At) → pieces (moved_at by a) ≡ map (moved_piece by) (pieces a)
  unfolding pieces
  pieces_move a = pieces_within_moves (length a.text) a.place a.text
