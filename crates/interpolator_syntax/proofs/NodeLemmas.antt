-- The pieces of a text: the first, and then those of the text after it.
use Rattle.std.proofs.Common.{◌≡◌, ℕ, zero, suc, ◌<◌, ◌≤◌, List, [], ◌∷◌, length, arith, refl, ap}
use Rattle.std.proofs.Common.{◌∙◌, sym, Option, Some, None}
use Rattle.interpolator_syntax.specs.Pieces.{PieceKind, closed, unclosed, broken, argument_from}
use Rattle.interpolator_syntax.specs.Tokens.{Token, first_token, past_token, argument}
use Rattle.interpolator_syntax.specs.Nodes.{Node, argument_node, nodes, piece_node, token_node}
use Rattle.interpolator_syntax.specs.Nodes.{leading_nodes, nodes_within}
use Rattle.interpolator_syntax.specs.{Places.At, Arguments.Argument, Faults.Fault, SpecTexts.Kind}
use Rattle.interpolator_syntax.proofs.TokenLemmas.{token_shorter, scan_shorter}
use Rattle.interpolator_syntax.proofs.SizeLemmas.{KindIn, argument_in}
use Rattle.interpolator_syntax.specs.declared.piece_kind.PieceKind as reported

-- ---- induction by length

below : (P : At → Type 0) → ((a : At) → ((b : At) → length b.text < length a.text → P b) → P a)
    → (n : ℕ) (a : At) → length a.text < n → P a
below P step zero a h = absurd (omega (arith, h))
below P step (suc n) a h = step a (λ b l. below P step n b (omega (arith, h, l)))

-- a property that holds for a text if it holds for each shorter one holds for all texts
pub by_length : (P : At → Type 0)
    → ((a : At) → ((b : At) → length b.text < length a.text → P b) → P a) → (a : At) → P a
by_length P step a = below P step (suc (length a.text)) a (omega arith)

-- ---- the kind of an argument

-- the kind is that of an argument whose groups lie in its text, or of a broken one
abbrev pub ArgumentKind : (PieceKind → Type 0) → At → Type 0
ArgumentKind P b =
    ((start : ℕ) (x : Argument) (q : ℕ) → KindIn x.kind b
    → P (closed start x q) × P (unclosed start x q)) × ((f : Fault) → P (broken f))

-- a property of each such kind is one of the kind of the argument that begins at b
pub argument_kind : (P : PieceKind → Type 0) (b : At) → ArgumentKind P b
    → P (argument_from b.place b).piece.kind
unfolding argument_from
argument_kind P b h = grind (arith, argument_in)

-- ---- the pieces do not depend on how many characters are allowed

module _ (a : At) (run other : At → List Node)
    (same : (b : At) → length b.text < length a.text → run b ≡ other b) where
  argument_same : (b : At) (p end : ℕ) (kind : reported.PieceKind) (start : ℕ) (x : Argument) (q : ℕ)
      → length b.text < length a.text → (k : Kind) → x.kind ≡ k → KindIn k b
      → argument_node run p end kind start x q ≡ argument_node other p end kind start x q
  argument_same b p end kind start x q l k e h = grind arith

  token_same : (p : ℕ) (t : Token) (b : At) → length b.text < length a.text
      → token_node run p t b ≡ token_node other p t b
  token_same p argument b l =
      let end = (argument_from b.place b).rest.place in
      argument_kind (λ k. piece_node run p end k ≡ piece_node other p end k) b
      (λ start x q h. grind (arith, argument_same b p end, h, l), λ f. refl)
  token_same p t b l = refl

  leading_same : (o : Option (Token × At)) → first_token a ≡ o
      → leading_nodes run a.place o ≡ leading_nodes other a.place o
  leading_same o e = grind (arith, token_same, token_shorter a, same, scan_shorter a)

-- a text without characters has no pieces
empty_leads : (a : At) (run : At → List Node) (o : Option (Token × At)) → first_token a ≡ o
    → length a.text ≤ 0 → leading_nodes run a.place o ≡ []
empty_leads a run None e h = refl
empty_leads a run (Some w) e h = absurd (omega (arith, h, token_shorter a w e))

enough : (n m : ℕ) (a : At) → length a.text ≤ n → length a.text ≤ m
    → nodes_within n a ≡ nodes_within m a
enough zero zero a h k = refl
enough zero (suc m) a h k = sym (empty_leads a (nodes_within m) (first_token a) refl h)
enough (suc n) zero a h k = empty_leads a (nodes_within n) (first_token a) refl k
enough (suc n) (suc m) a h k =
    leading_same a _ _ (λ b l. enough n m b (omega arith) (omega arith)) (first_token a) refl

-- the pieces of a text are the first one, and those of the text after it
pub nodes_lead : (a : At) → nodes a ≡ leading_nodes nodes a.place (first_token a)
unfolding nodes
nodes_lead a =
    let n = length a.text in
    enough n (suc n) a (omega arith) (omega arith)
    ∙ leading_same a (nodes_within n) nodes
    (λ b l. enough n (length b.text) b (omega (arith, l)) (omega arith)) (first_token a) refl

pub nodes_first : (a b : At) (t : Token) → first_token a ≡ Some (t, b)
    → nodes a ≡ token_node nodes a.place t b ∷ nodes (past_token t b)
nodes_first a b t h = nodes_lead a ∙ ap (leading_nodes nodes a.place) h

pub nodes_none : (a : At) → first_token a ≡ None → nodes a ≡ []
nodes_none a h = nodes_lead a ∙ ap (leading_nodes nodes a.place) h

-- ---- induction by tokens

-- a property of each text without tokens that, of the text after the first token and its argument,
-- is one of the whole text holds for all texts
pub by_token : (P : At → Type 0) → ((a : At) → first_token a ≡ None → P a)
    → ((a b : At) (t : Token) → first_token a ≡ Some (t, b) → P (past_token t b) → P a)
    → (a : At) → P a
by_token P none first = by_length P (λ a shorter. by_first a shorter (first_token a) refl)
  where
    by_first : (a : At) → ((b : At) → length b.text < length a.text → P b)
        → (o : Option (Token × At)) → first_token a ≡ o → P a
    by_first a shorter None e = none a e
    by_first a shorter (Some w) e =
        first a w.1 w.0 e (shorter (past_token w.0 w.1) (scan_shorter a _ w e refl))
