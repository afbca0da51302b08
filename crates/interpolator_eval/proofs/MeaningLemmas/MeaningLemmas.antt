-- A text means what its pieces mean.
use Rattle.std.proofs.Common.{◌≡◌, ℕ, ◌+◌, List, [], ◌∷◌, ◌++◌, append-nil, map, length, arith}
use Rattle.std.proofs.Common.{refl, ap, ◌∙◌, sym, Option, Some, None, append_assoc, length-append}
use Rattle.std.proofs.lemmas.List.{map-append}
use Rattle.std.specs.Char.{len_utf8}
use Rattle.interpolator_render.specs.{declared.view.Trait.Trait, declared.view.Spec.Spec}
use Rattle.interpolator_render.specs.Views.{Shown}
use Rattle.interpolator_syntax.specs.Places.{At, placed_from, size}
use Rattle.interpolator_syntax.specs.Nodes.{Node, as_forest, piece_node, nodes}
use Rattle.interpolator_syntax.specs.Pieces.{piece_from, past, Piece, pieces}
use Rattle.interpolator_syntax.specs.{Faults.Fault, Splits.literal_nodes, Splits.node_alone}
use Rattle.interpolator_syntax.proofs.PieceLemmas.{piece_begins, pieces_none, pieces_next}
use Rattle.interpolator_syntax.proofs.SplitLemmas.{gathered_alone}
use Rattle.interpolator_eval.specs.Meaning.Environments.{Environment}
use Rattle.interpolator_eval.specs.Meaning.Meanings.{Meaning, nothing, text_alone, or_fault, chain}
use Rattle.interpolator_eval.specs.Meaning.Meanings.{node_means, forest_means, means, pieces_mean}

shift_twice : (a b : ℕ) (ns : List ℕ)
    → map (λ n. a + b + n) ns ≡ map (λ n. a + n) (map (λ n. b + n) ns)
shift_twice a b [] = refl
shift_twice a b (n ∷ ns) = grind (arith, shift_twice a b ns)

-- joining is associative
pub joined_assoc : (m k l : Meaning) → chain (chain m k) l ≡ chain m (chain k l)
joined_assoc m k l = by_faults m.fault refl k.fault refl
  where
    by_faults : (o : Option Fault) → m.fault ≡ o → (p : Option Fault) → k.fault ≡ p
        → chain (or_fault o m k) l ≡ or_fault o m (or_fault p k l)
    by_faults (Some f) e p d = rw e refl
    by_faults None e (Some f) d = rw d refl
    by_faults None e None d =
        let shift = shift_twice (length m.text) (length k.text) l.memory_points in
        rw (d, append_assoc, append_assoc, length-append, shift, map-append) refl

unmoved : (ns : List ℕ) → map (λ n. 0 + n) ns ≡ ns
unmoved [] = refl
unmoved (n ∷ ns) = grind (arith, unmoved ns)

-- an empty text before it changes nothing
pub joined_none : (m : Meaning) → chain (text_alone []) m ≡ m
joined_none m = rw (unmoved m.memory_points) refl

-- nor does one after it
pub nothing_last : (m : Meaning) → chain m nothing ≡ m
nothing_last m = grind (arith, append-nil)

module _ {X : Type 0} (shows : X → Trait → Spec → Shown) (e : Environment X) where
  abbrev All : List Node → Meaning
  All xs = forest_means shows e (as_forest xs)

  -- what some nodes mean, and then what those after them mean
  pub forest_joined : (xs ys : List Node) → All (xs ++ ys) ≡ chain (All xs) (All ys)
  forest_joined [] ys = sym (joined_none _)
  forest_joined (x ∷ xs) ys = rw (joined_assoc, ← forest_joined xs ys) refl

  -- ---- the pieces of a text

  -- literals mean their characters, as one node or as many
  literals_mean : (p : ℕ) (cs : List ℕ) (xs : List Node)
      → chain (text_alone (placed_from p cs)) (All xs) ≡ All (literal_nodes p cs ++ xs)
  literals_mean p [] xs = joined_none _
  literals_mean p (c ∷ cs) xs =
      let first = text_alone ((c, p) ∷ []) in
      joined_assoc first (text_alone (placed_from (p + len_utf8 c) cs)) (All xs)
      ∙ ap (chain first) (literals_mean (p + len_utf8 c) cs xs)

  -- a text means what its pieces mean
  pub means_pieces : (a : At) → means shows e a ≡ pieces_mean shows e (pieces a)
  means_pieces =
      gathered_alone All (λ x xs ys h. ap (chain (node_means shows e x)) h)
      (λ p end cs xs. literals_mean p cs xs)

  -- what some pieces mean, and then what those after them mean
  pub pieces_mean_append : (xs ys : List Piece)
      → pieces_mean shows e (xs ++ ys) ≡ chain (pieces_mean shows e xs) (pieces_mean shows e ys)
  pieces_mean_append xs ys = rw map-append (forest_joined (map node_alone xs) (map node_alone ys))

  -- what the pieces before one mean, what it means, and what those after it mean
  pub means_around : (a : At) (before after : List Piece) (x : Piece)
      → pieces a ≡ before ++ (x ∷ after)
      → means shows e a ≡ chain (pieces_mean shows e before)
      (chain (node_means shows e (node_alone x)) (pieces_mean shows e after))
  means_around a before after x h =
      rw (means_pieces a, h) (pieces_mean_append before (x ∷ after))

  pub means_none : (p : ℕ) → means shows e (record { place = p; text = [] }) ≡ nothing
  means_none p = rw (means_pieces (record { place = p; text = [] }), pieces_none p) refl

  -- the first piece, and then the rest
  pub means_next : (p c : ℕ) (cs : List ℕ)
      → (let s = piece_from p c (past p c cs) in means shows e (record { place = p; text = c ∷ cs })
      ≡ chain (node_means shows e (piece_node nodes p (p + size s.piece.text) s.piece.kind))
      (means shows e s.rest))
  means_next p c cs =
      let s = piece_from p c (past p c cs) in
      means_pieces (record { place = p; text = c ∷ cs })
      ∙ ap (pieces_mean shows e) (pieces_next p c cs)
      ∙ ap (chain (node_means shows e (node_alone s.piece))) (sym (means_pieces s.rest))
      ∙ ap (λ q. chain
      (node_means shows e (piece_node nodes q (q + size s.piece.text) s.piece.kind))
      (means shows e s.rest)) (piece_begins p c (past p c cs))
