-- The names that a text uses, by the relation and as computed, are the same list.
use Rattle.std.proofs.Common.{◌≡◌, ℕ, zero, suc, ◌<◌, List, [], ◌∷◌, length, arith, refl, Option}
use Rattle.std.proofs.Common.{true, false, filter}
use Rattle.interpolator_syntax.specs.Nodes.{nodes, group_branch, piece_node}
use Rattle.interpolator_syntax.specs.Pieces.{Piece, PieceKind, pieces}
use Rattle.interpolator_syntax.specs.{Places.At, Groups.Group, Groups.inside, SpecTexts.Kind}
use Rattle.interpolator_eval.specs.Meaning.AskedGrammar.{is_named, GroupAsks, KindAsks, PieceAsks}
use Rattle.interpolator_eval.specs.Meaning.AskedGrammar.{PiecesAsk, AsksWithin, AsksNames}
use Rattle.interpolator_eval.specs.Meaning.AskedNames.{without_empty, branch_asks, node_asks}
use Rattle.interpolator_eval.specs.Meaning.AskedNames.{asked_names}
use Rattle.interpolator_syntax.proofs.SizeLemmas.{GroupIn, GroupIfIn, KindIn, PieceIn, PiecesIn}
use Rattle.interpolator_syntax.proofs.SizeLemmas.{pieces_in}
use Rattle.interpolator_eval.proofs.MeaningLemmas.AskedPieceLemmas.{group_asks, kind_asks}
use Rattle.interpolator_eval.proofs.MeaningLemmas.AskedPieceLemmas.{pieces_ask, branch_in_item}
use Rattle.interpolator_eval.proofs.MeaningLemmas.AskedPieceLemmas.{asked_pieces}

named_kept : (names : List (List ℕ)) → without_empty names ≡ filter is_named names
named_kept [] = refl
named_kept (name ∷ names) = grind (arith, named_kept names)

-- the names of an item format are those of its text that are not empty
item_named : (o : Option Group)
    → branch_asks true (group_branch nodes o) ≡ filter is_named (group_asks o)
item_named o = grind (arith, branch_in_item, named_kept, group_asks)

-- ---- the computed names are used

module _ (a : At) (Asks : At → List (List ℕ) → Type 0)
    (holds : (g : Group) → GroupIn g a → Asks (inside g) (asked_names (inside g))) where
  group_holds : (o : Option Group) → GroupIfIn o a → GroupAsks Asks o (group_asks o)
  group_holds o h = grind arith

  kind_holds : (kind : Kind) → KindIn kind a → KindAsks Asks kind (kind_asks kind)
  kind_holds kind h = grind (arith, group_asks, group_holds, item_named)

  piece_holds : (p end : ℕ) (kind : PieceKind) → PieceIn kind a
      → PieceAsks Asks kind (node_asks false (piece_node nodes p end kind))
  piece_holds p end kind h = grind (arith, kind_asks, kind_holds)

  pieces_hold : (xs : List Piece) → PiecesIn xs a → PiecesAsk Asks xs (pieces_ask xs)
  pieces_hold [] h = refl
  pieces_hold (x ∷ xs) h = grind (arith, pieces_ask, piece_holds, pieces_hold xs h.2)

within_holds : (n : ℕ) (a : At) → length a.text < n → AsksWithin n a (asked_names a)
within_holds zero a h = absurd (omega (arith, h))
within_holds (suc n) a h =
    rw (asked_pieces a) (pieces_hold a (AsksWithin n)
    (λ g l. within_holds n (inside g) (omega (arith, h, l.shorter))) (pieces a) (pieces_in a))

-- a text uses the names that are computed
pub names_asked : (a : At) → AsksNames a (asked_names a)
names_asked a = (suc (length a.text), within_holds (suc (length a.text)) a (omega arith))

-- ---- and no others

module _ (Asks : At → List (List ℕ) → Type 0)
    (only : (a : At) (names : List (List ℕ)) → Asks a names → names ≡ asked_names a) where
  pieces_only : (xs : List Piece) (names : List (List ℕ)) → PiecesAsk Asks xs names
      → names ≡ pieces_ask xs
  pieces_only [] names h = h
  pieces_only (x ∷ xs) names h = grind (arith, group_asks, item_named, pieces_only xs h.1 h.3)

within_only : (n : ℕ) (a : At) (names : List (List ℕ)) → AsksWithin n a names
    → names ≡ asked_names a
within_only zero a names h = absurd h
within_only (suc n) a names h = grind (arith, pieces_only, asked_pieces, within_only n)

-- the names that a text uses are those that are computed
pub names_only : (a : At) (names : List (List ℕ)) → AsksNames a names → names ≡ asked_names a
names_only a names h = grind (arith, within_only)
