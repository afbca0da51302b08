-- A text at another base means the same, with every place moved.
use Rattle.std.proofs.Common.{◌≡◌, ℕ, ◌+◌, ◌<◌, List, [], ◌∷◌, length, map, arith, refl, Option}
use Rattle.std.proofs.Common.{None, option_map}
use Rattle.std.proofs.lemmas.List.{map-append, length-map}
use Rattle.interpolator_render.specs.{declared.view.Trait.Trait, declared.view.Spec.Spec}
use Rattle.interpolator_render.specs.Views.{Shown}
use Rattle.interpolator_syntax.specs.Places.{At, Placed, placed_at, text_of, outermost}
use Rattle.interpolator_syntax.specs.Pieces.{Piece, PieceKind, pieces}
use Rattle.interpolator_syntax.specs.Moved.{moved_at, moved_group, moved_piece_kind, moved_piece}
use Rattle.interpolator_syntax.specs.Nodes.{nodes, piece_node}
use Rattle.interpolator_syntax.specs.{Groups.Group, Lists.ListRequest, Grammar.from_place}
use Rattle.interpolator_eval.specs.Meaning.Meanings.{Meaning, items_after, items_mean, pieces_mean}
use Rattle.interpolator_eval.specs.Meaning.Meanings.{chain, value_means, padded_list, listed_means}
use Rattle.interpolator_eval.specs.Meaning.Meanings.{node_means, item_means, join_means, means}
use Rattle.interpolator_eval.specs.Meaning.Moves.{moved_text, moved_meaning}
use Rattle.interpolator_eval.specs.{Slots.Slots, Meaning.Environments.Environment}
use Rattle.interpolator_syntax.proofs.SizeLemmas.{GroupIfIn, ListIn, PieceIn, PiecesIn, pieces_in}
use Rattle.interpolator_syntax.proofs.{LongestLemmas.at_same, MovePieceLemmas.pieces_move}
use Rattle.interpolator_syntax.proofs.NodeLemmas.{by_length}
use Rattle.interpolator_eval.proofs.MeaningLemmas.MeaningLemmas.{means_pieces}

module _ (by : ℕ) where
  -- ---- placed texts

  placed_at_moves : (q : ℕ) (cs : List ℕ) → placed_at (q + by) cs ≡ moved_text by (placed_at q cs)
  placed_at_moves q [] = refl
  placed_at_moves q (c ∷ cs) = grind (arith, placed_at_moves q cs)

  text_of_moves : (xs : Placed) → text_of (moved_text by xs) ≡ text_of xs
  text_of_moves [] = refl
  text_of_moves (x ∷ xs) = grind (arith, text_of_moves xs)

  -- ---- joining

  both_move : (m k l o : Meaning) → m ≡ moved_meaning by l → k ≡ moved_meaning by o
      → chain m k ≡ moved_meaning by (chain l o)
  both_move m k l o e h = grind (arith, length-map, map-append)

  -- ---- values

  text_moves : (q : ℕ) (cs : List ℕ) (points : List ℕ)
      → ◌≡◌ {A = Meaning}
      (record { text = placed_at (q + by) cs; fault = None; memory_points = points })
      (moved_meaning by
      (record { text = placed_at q cs; fault = None; memory_points = points }))
  text_moves q cs points = rw placed_at_moves refl

  value_moves :
      {X : Type 0} (shows : X → Trait → Spec → Shown) (t : Trait) (spec : Spec) (q : ℕ)
      (o : Option X)
      → value_means shows t spec (q + by) o ≡ moved_meaning by (value_means shows t spec q o)
  value_moves shows t spec q o = grind (arith, text_moves)

  -- ---- lists

  padded_moves : (spec : Spec) (q : ℕ) (m k : Meaning) → m ≡ moved_meaning by k
      → padded_list spec (q + by) m ≡ moved_meaning by (padded_list spec q k)
  padded_moves spec q m k e = grind (arith, text_of_moves, text_moves)

  module _ {A : Type 0} (j k : Meaning) (f g : A → Meaning) (joins : j ≡ moved_meaning by k)
      (each : (x : A) → f x ≡ moved_meaning by (g x)) where
    after_moves : (xs : List A) → items_after j f xs ≡ moved_meaning by (items_after k g xs)
    after_moves [] = refl
    after_moves (x ∷ xs) = grind (arith, both_move, after_moves xs)

    items_move : (xs : List A) → items_mean j f xs ≡ moved_meaning by (items_mean k g xs)
    items_move xs = grind (arith, both_move, after_moves)

  module _ {X : Type 0} (shows : X → Trait → Spec → Shown) where
    abbrev Moves : At → Type 0
    Moves a =
        (e : Environment X)
        → means shows e (moved_at by a) ≡ moved_meaning by (means shows e a)

    module _ (a : At) (shorter : (b : At) → length b.text < length a.text → Moves b)
        (e : Environment X) where
      item_moves : (q : ℕ) (o : Option Group) (item : Slots X) → GroupIfIn o a
          → item_means shows e (q + by) (option_map (moved_group by) o) item
          ≡ moved_meaning by (item_means shows e q o item)
      item_moves q o item h = grind (arith, value_moves)

      join_moves : (o : Option Group) → GroupIfIn o a
          → join_means shows e (option_map (moved_group by) o)
          ≡ moved_meaning by (join_means shows e o)
      join_moves o h = grind arith

      list_moves : (l : ListRequest) (spec : Spec) (q : ℕ) (o : Option (List (Slots X)))
          → ListIn l a → listed_means l.range spec (q + by)
          (join_means shows e (option_map (moved_group by) l.join))
          (item_means shows e (q + by) (option_map (moved_group by) l.item)) o
          ≡ moved_meaning by (listed_means l.range spec q (join_means shows e l.join)
          (item_means shows e q l.item) o)
      list_moves l spec q o h =
          grind (arith, padded_moves, items_move, join_moves, item_moves)

      piece_moves : (p n m : ℕ) (kind : PieceKind) → PieceIn kind a
          → node_means shows e (piece_node nodes (p + by) m (moved_piece_kind by kind))
          ≡ moved_meaning by (node_means shows e (piece_node nodes p n kind))
      piece_moves p n m kind h = grind (arith, both_move, value_moves, list_moves)

      pieces_mean_moves : (xs : List Piece) → PiecesIn xs a
          → pieces_mean shows e (map (moved_piece by) xs)
          ≡ moved_meaning by (pieces_mean shows e xs)
      pieces_mean_moves [] h = refl
      pieces_mean_moves (x ∷ xs) h = grind (arith, both_move, piece_moves, pieces_mean_moves xs h.2)

    -- a text at another base means the same, moved
    pub means_moves : (e : Environment X) (a : At)
        → means shows e (moved_at by a) ≡ moved_meaning by (means shows e a)
    means_moves e a =
        by_length Moves (λ b shorter d.
        rw (means_pieces shows d (moved_at by b), pieces_move by b, means_pieces shows d b)
        (pieces_mean_moves b shorter d (pieces b) (pieces_in b))) a e

-- so a text at a place means what it means by itself, moved by the place
pub means_from :
    {X : Type 0} (shows : X → Trait → Spec → Shown) (e : Environment X) (p : ℕ) (cs : List ℕ)
    → means shows e (from_place p cs) ≡ moved_meaning p (means shows e (outermost cs))
means_from shows e p cs =
    let there : from_place p cs ≡ moved_at p (outermost cs) = at_same (omega arith) refl in
    rw there (means_moves p shows e (outermost cs))
