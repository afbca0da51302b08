-- The tree of a text beside its pieces.
use Rattle.std.proofs.Common.{◌≡◌, ℕ, ◌+◌, Bool, true, false, List, [], ◌∷◌, ◌++◌, length, map}
use Rattle.std.proofs.Common.{flat_map, ◌&&◌, arith, refl, ap, sym, Option, Some, None, ◌<◌}
use Rattle.std.specs.Char.{len_utf8}
use Rattle.std.proofs.lemmas.List.{map-append}
use Rattle.interpolator_syntax.specs.Places.{At, size}
use Rattle.interpolator_syntax.specs.PieceGrammar.{literal_pieces, token_pieces}
use Rattle.interpolator_syntax.specs.Classes.{front_of, after_of, in_class}
use Rattle.interpolator_syntax.specs.Pieces.{Piece, pieces, argument_from}
use Rattle.interpolator_syntax.specs.Tokens.{Token, literals, argument, first_token, past_token}
use Rattle.interpolator_syntax.specs.Nodes.{Node, text_node, piece_node, token_node, nodes}
use Rattle.interpolator_syntax.specs.Splits.{node_alone, nodes_alone, with_node, join_literals}
use Rattle.interpolator_syntax.specs.Splits.{literal_nodes, split_node, split_again, is_literal}
use Rattle.interpolator_syntax.specs.Splits.{begins_literal, NoTwoLiterals}
use Rattle.interpolator_syntax.specs.declared.class.Class.TheVariants as classes
use Rattle.interpolator_syntax.specs.declared.piece_kind.PieceKind.TheVariants.{Literal}
use Rattle.interpolator_syntax.proofs.LocalityLemmas.{stands, size-append, takes_reaches}
use Rattle.interpolator_syntax.proofs.ScanLemmas.{hands_on, hands_nothing}
use Rattle.interpolator_syntax.proofs.NodeLemmas.{by_token, argument_kind, nodes_lead, nodes_first}
use Rattle.interpolator_syntax.proofs.NodeLemmas.{nodes_none}
use Rattle.interpolator_syntax.proofs.TokenTextLemmas.{takes_token, scan_taken}
use Rattle.interpolator_syntax.proofs.{GrammarLemmas.pieces_joined, GrammarPieceLemmas.pieces_are}

-- ---- nodes that are not of literals

-- a node in front of nodes, if it is not of literals
with_other : (x : Node) (xs : List Node) → is_literal x ≡ false → with_node x xs ≡ x ∷ xs
with_other x xs h = grind (arith, h)

split_other : (x : Node) → is_literal x ≡ false → split_node x ≡ x ∷ []
split_other x h = grind (arith, h)

-- the node of an argument, or of a broken one, is not of literals
argument_other : (p end : ℕ) (b : At)
    → is_literal (piece_node nodes p end (argument_from b.place b).piece.kind) ≡ false
argument_other p end b =
    argument_kind (λ k. is_literal (piece_node nodes p end k) ≡ false) b
    (λ start x q h. (refl, refl), λ f. refl)

-- ---- runs of literals

-- a token is a run of literals
abbrev is_run : Token → Bool
is_run (literals cs) = true
is_run t = false

-- a run of literals comes first
abbrev begins_run : Option (Token × At) → Bool
begins_run None = false
begins_run (Some w) = is_run w.0

-- none does after the longest run of them
after_run : (p : ℕ) (cs : List ℕ)
    → begins_run (first_token (stands p (after_of (in_class classes.Literal) cs))) ≡ false
unfolding first_token
after_run p [] = refl
after_run p (c ∷ cs) = grind (arith, after_run p cs)

-- a run of literals is not empty, and no literal is after it
run_at : (p : ℕ) (text cs : List ℕ) (b : At) → first_token (stands p text) ≡ Some (literals cs, b)
    → (0 < length cs) × (begins_run (first_token b) ≡ false)
unfolding first_token
run_at p text cs b h =
    grind (arith, h, after_run (p + size (front_of (in_class classes.Literal) text)) text)

-- ---- neighbours

token_other : (p : ℕ) (t : Token) (b : At) → is_run t ≡ false
    → is_literal (token_node nodes p t b) ≡ false
token_other p t b h = grind (arith, argument_other, h)

next_other : (b : At) → begins_run (first_token b) ≡ false → begins_literal (nodes b) ≡ false
next_other b h = grind (arith, nodes_lead, token_other)

neighbour_other : (a b : At) (t : Token) → first_token a ≡ Some (t, b)
    → (is_literal (token_node nodes a.place t b) && begins_literal (nodes (past_token t b))) ≡ false
neighbour_other a b (literals cs) h = grind (arith, next_other b, run_at a.place a.text cs b h)
neighbour_other a b t h = grind (arith, token_other a.place t b refl)

pub no_two_literals : (a : At) → NoTwoLiterals (nodes a)
no_two_literals =
    by_token _ (λ a e. rw (nodes_none a e) tt)
    (λ a b t e more. rw (nodes_first a b t e) (neighbour_other a b t e, more))

-- ---- the texts of pieces

pub texts : (a : At) → flat_map (λ (x : Piece). x.text) (pieces a) ≡ a.text
texts a = pieces_joined (pieces a) a (pieces_are a)

-- ---- split again they are the pieces

-- characters that are literals, each by itself
literals_alone : (p : ℕ) (cs : List ℕ) → map node_alone (literal_pieces p cs) ≡ literal_nodes p cs
literals_alone p [] = refl
literals_alone p (c ∷ cs) = grind (arith, literals_alone (p + len_utf8 c) cs)

module _ (a b : At) (t : Token) (h : first_token a ≡ Some (t, b)) where
  -- the one piece of a token ends where the others begin
  piece_ends : (x : Piece) → token_pieces a.place t b ≡ x ∷ []
      → a.place + size x.text ≡ (past_token t b).place
  piece_ends x e =
      let rest = past_token t b in
      let whole : x.text ++ rest.text ≡ a.text =
      grind (arith, texts rest, texts a, hands_on a t b h, e) in
      omega (arith, takes_reaches _ a rest (scan_taken a (t, b) h) refl, ap size whole, size-append)

  -- the first pieces, and those of the text after them
  alone_first :
      nodes_alone a ≡ map node_alone (token_pieces a.place t b) ++ nodes_alone (past_token t b)
  alone_first = rw (hands_on a t b h) (map-append node_alone (token_pieces a.place t b) _)

-- an argument is the same wherever its brace is
pub any_brace : (q p : ℕ) (b : At)
    → ((argument_from p b).piece.place ≡ p)
    × ((argument_from p b).piece.kind ≡ (argument_from q b).piece.kind)
unfolding argument_from
any_brace q p b = grind arith

argument_alone : (p : ℕ) (b : At) (end : ℕ) → p + size (argument_from p b).piece.text ≡ end
    → node_alone (argument_from p b).piece
    ≡ piece_node nodes p end (argument_from b.place b).piece.kind
argument_alone p b end e = grind (arith, any_brace b.place p b, e)

-- a token that is no run of literals
token_alone : (a b : At) (t : Token) → first_token a ≡ Some (t, b) → is_run t ≡ false
    → map node_alone (token_pieces a.place t b) ≡ token_node nodes a.place t b ∷ []
token_alone a b (literals cs) h k = absurd (cc)
token_alone a b argument h k =
    grind (arith, argument_alone a.place b _ (piece_ends a b argument h _ refl))
token_alone a b t h k = grind (arith, piece_ends a b t h _ refl)

-- ---- literals as one

-- a run of literals becomes one node
run_merged : (p c : ℕ) (cs : List ℕ) (xs : List Node) → begins_literal (join_literals xs) ≡ false
    → join_literals (literal_nodes p (c ∷ cs) ++ xs)
    ≡ text_node p (p + size (c ∷ cs)) Literal (c ∷ cs) ∷ join_literals xs
run_merged p c [] xs h = grind arith
run_merged p c (d ∷ ds) xs h = grind (arith, run_merged (p + len_utf8 c) d ds xs h)

module _ (a b : At) where
  run_one : (cs : List ℕ) → first_token a ≡ Some (literals cs, b)
      → join_literals (nodes_alone b) ≡ nodes b
      → join_literals (map node_alone (literal_pieces a.place cs) ++ nodes_alone b)
      ≡ text_node a.place b.place Literal cs ∷ nodes b
  run_one [] h more = grind (arith, run_at a.place a.text [] b h)
  run_one (c ∷ cs) h more =
      let next = next_other b (run_at a.place a.text (c ∷ cs) b h).1 in
      let alone = literals_alone a.place (c ∷ cs) in
      let merged = run_merged a.place c cs (nodes_alone b) in
      let token = takes_token a (literals (c ∷ cs), b) h in
      grind (arith, next, alone, merged, more, token.size)

pub literals_as_one : (a : At) → join_literals (nodes_alone a) ≡ nodes a
literals_as_one =
    by_token _ (λ a e. rw (hands_nothing a e, nodes_none a e) refl)
    (λ a b t e more.
    rw (alone_first a b t e, nodes_first a b t e)
    (grind (arith, run_one a b, token_alone a b t e, with_other, token_other, more)))

-- ---- and by themselves again

token_splits : (a b : At) (t : Token) → first_token a ≡ Some (t, b)
    → split_node (token_node nodes a.place t b) ≡ map node_alone (token_pieces a.place t b)
token_splits a b t h = grind (arith, literals_alone, split_other, token_other, token_alone a b t h)

pub pieces_again : (a : At) → split_again (nodes a) ≡ nodes_alone a
pieces_again =
    by_token _ (λ a e. rw (hands_nothing a e, nodes_none a e) refl)
    (λ a b t e more.
    rw (alone_first a b t e, nodes_first a b t e, sym (token_splits a b t e), sym more) refl)

-- ---- gathering from nodes, where a run of literals yields what its characters yield one by one

module _ {M : Type 0} (all : List Node → M)
    (next : (x : Node) (xs ys : List Node) → all xs ≡ all ys → all (x ∷ xs) ≡ all (x ∷ ys))
    (run : (p end : ℕ) (cs : List ℕ) (xs : List Node)
    → all (text_node p end Literal cs ∷ xs) ≡ all (literal_nodes p cs ++ xs)) where
  after_all : (zs xs ys : List Node) → all xs ≡ all ys → all (zs ++ xs) ≡ all (zs ++ ys)
  after_all [] xs ys h = h
  after_all (z ∷ zs) xs ys h = next z (zs ++ xs) (zs ++ ys) (after_all zs xs ys h)

  -- what is gathered from the nodes of a text is what is gathered from its pieces
  pub gathered_alone : (a : At) → all (nodes a) ≡ all (nodes_alone a)
  gathered_alone =
      by_token _ (λ a e. rw (hands_nothing a e, nodes_none a e) refl)
      (λ a b t e more.
      rw (alone_first a b t e, nodes_first a b t e)
      (grind (arith, literals_alone, after_all, token_alone a b t e, more)))
