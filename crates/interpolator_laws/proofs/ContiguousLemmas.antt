-- The nodes of a text follow one another, and those of a group are in their argument.
use Rattle.std.proofs.Common.{◌≡◌, ℕ, ◌+◌, ◌<◌, ◌≤◌, List, [], ◌∷◌, length, length-append, arith}
use Rattle.std.proofs.Common.{refl, sym, subst, Option, Some, None, Result, Ok, Err}
use Rattle.std.proofs.lemmas.Str.{len_utf8_bounds}
use Rattle.std.specs.Prelude.{⊤}
use Rattle.interpolator_syntax.specs.SpecTexts.{Kind, of_value, of_list, Request}
use Rattle.interpolator_syntax.specs.Tokens.{Token, argument, first_token, past_token}
use Rattle.interpolator_syntax.specs.Nodes.{as_forest, group_branch, item_branch, join_branch}
use Rattle.interpolator_syntax.specs.Nodes.{piece_node, token_node, nodes}
use Rattle.interpolator_syntax.specs.Splits.{node_place, node_end, Contiguous, GroupsInside}
use Rattle.interpolator_syntax.specs.Splits.{GroupInside, HasGroups}
use Rattle.interpolator_syntax.specs.{ArgumentGrammar.Asks, ArgumentGrammar.request_in}
use Rattle.interpolator_syntax.specs.{Arguments.Argument, Arguments.argument_at, Places.At}
use Rattle.interpolator_syntax.specs.{Places.size}
use Rattle.interpolator_syntax.specs.{Places.strip, Classes.close_brace, Faults.Fault, Groups.Group}
use Rattle.interpolator_syntax.specs.{Pieces.argument_from, Pieces.argument_or_broken}
use Rattle.interpolator_syntax.specs.{Pieces.argument_step, SpecGrammar.kind}
use Rattle.interpolator_syntax.specs.declared.piece_kind.PieceKind as reported
use Rattle.interpolator_syntax.specs.declared.piece_kind.PieceKind.TheVariants.{Closed, Unclosed}
use Rattle.interpolator_syntax.proofs.LocalityLemmas.{takes_reaches, size-append}
use Rattle.interpolator_syntax.proofs.SizeLemmas.{GroupIfIn, KindIn, argument_in}
use Rattle.interpolator_syntax.proofs.TokenLemmas.{scan_shorter, token_shorter}
use Rattle.interpolator_syntax.proofs.NodeLemmas.{by_length, nodes_first, nodes_none}
use Rattle.interpolator_syntax.proofs.TokenTextLemmas.{takes_token, scan_taken}
use Rattle.interpolator_syntax.proofs.{GrammarArgumentLemmas.argument_is, PieceLemmas.strip_after}
use Rattle.interpolator_syntax.proofs.{ReaderLemmas.argument_takes, ScanLemmas.hands_nothing}
use Rattle.interpolator_syntax.proofs.SplitLemmas.{texts}

-- ---- groups end in front of what follows their argument

-- a group, if there is one, ends in front of n
abbrev GroupBefore : ℕ → Option Group → Type 0
GroupBefore n None = ⊤
GroupBefore n (Some g) = g.place + size g.text < n

abbrev KindBefore : ℕ → Kind → Type 0
KindBefore n (of_value t) = ⊤
KindBefore n (of_list l) = GroupBefore n l.item × GroupBefore n l.join

group_later : (o : Option Group) (m n : ℕ) → m ≤ n → GroupBefore m o → GroupBefore n o
group_later o m n h k = grind arith

asks_before : (start : ℕ) (a : At) (x : Request) (q : At) → Asks start a x q
    → KindBefore q.place x.kind
asks_before start a x q asks = grind (arith, size-append, group_later)

-- the groups of an argument end in front of the byte after its spec
argument_before : (a : At) (x : Argument) (q : At) → argument_at a ≡ Ok (x, q)
    → KindBefore q.place x.kind
argument_before a x q e =
    let h = argument_is a q x e in asks_before a.place h.after (request_in x) q h.asks

-- ---- and lie in it

-- the nodes of a text reach from its beginning to its end
abbrev Reaches : At → Type 0
Reaches a = Contiguous a.place (as_forest (nodes a)) (a.place + size a.text)

-- those of each shorter text do
abbrev ShorterReach : At → Type 0
ShorterReach a = (b : At) → length b.text < length a.text → Reaches b

module _ (p end : ℕ) (kind : reported.PieceKind) (has : HasGroups kind) (b : At) (start : p < b.place)
    (more : ShorterReach b) where
  one_inside : (o : Option Group) → GroupIfIn o b → GroupBefore end o
      → GroupInside p end kind (group_branch nodes o)
  one_inside o h k = grind arith

  both_inside : (k : Kind) → KindIn k b → KindBefore end k
      → GroupInside p end kind (item_branch nodes k)
      × GroupInside p end kind (join_branch nodes k)
  both_inside k h l = grind (arith, one_inside)

kind_later : (k : Kind) (m n : ℕ) → m ≤ n → KindBefore m k → KindBefore n k
kind_later k m n h before = grind (arith, group_later)

module _ (p : ℕ) (b : At) (start : p < b.place) (more : ShorterReach b) where
  kind_inside : (end : ℕ) (kind : reported.PieceKind) → HasGroups kind → (x : Argument) (q : At)
      → argument_at b ≡ Ok (x, q) → q.place ≤ end
      → GroupInside p end kind (item_branch nodes x.kind)
      × GroupInside p end kind (join_branch nodes x.kind)
  kind_inside end kind has x q e l =
      both_inside p end kind has b start more x.kind (argument_in b x q e)
      (kind_later x.kind q.place end l (argument_before b x q e))

  step_inside : (x : Argument) (q : At) (o : Option At) → argument_at b ≡ Ok (x, q)
      → strip close_brace q ≡ o
      → (let s = argument_step b.place b x q o in
      GroupsInside (piece_node nodes p s.rest.place s.piece.kind))
  step_inside x q None e d =
      kind_inside (b.place + size b.text) Unclosed tt x q e
      (omega (arith, takes_reaches _ b q (argument_takes b x q e) refl))
  step_inside x q (Some rest) e d =
      kind_inside rest.place Closed tt x q e (omega (arith, (strip_after close_brace q.place q.text rest d).1))

  answer_inside : (r : Result (Argument × At) Fault) → argument_at b ≡ r
      → (let s = argument_or_broken b.place b r in
      GroupsInside (piece_node nodes p s.rest.place s.piece.kind))
  answer_inside (Ok w) e = step_inside w.0 w.1 (strip close_brace w.1) e refl
  answer_inside (Err f) e = (tt, tt)

  argument_inside : GroupsInside (token_node nodes p argument b)
  unfolding argument_from
  argument_inside = answer_inside (argument_at b) refl

token_inside : (a : At) (t : Token) (b : At) → first_token a ≡ Some (t, b) → ShorterReach a
    → GroupsInside (token_node nodes a.place t b)
token_inside a argument b e more =
    let place = (takes_token a (argument, b) e).size in
    let shorter = token_shorter a (argument, b) e in
    argument_inside a.place b (omega (arith, place))
    (λ c l. more c (omega (arith, l, shorter)))
token_inside a t b e more = (tt, tt)

-- ---- one after the other

-- the node of a token has the place and the end that are given
token_stands : (p : ℕ) (t : Token) (b : At)
    → (node_place (token_node nodes p t b) ≡ p)
    × (node_end (token_node nodes p t b) ≡ (past_token t b).place)
token_stands p t b = grind arith

-- a text has a byte at least for each character
length_le_size : (cs : List ℕ) → length cs ≤ size cs
length_le_size [] = omega arith
length_le_size (c ∷ cs) = omega (arith, len_utf8_bounds c, length_le_size cs)

-- so the first node of a text has one
goes_on : (a : At) (w : Token × At) → first_token a ≡ Some w
    → a.place < (past_token w.0 w.1).place
goes_on a w e =
    let t = scan_taken a w e in
    grind (arith, t, length-append, length_le_size t.front, scan_shorter a _ w e refl)

nothing_left : (a : At) → first_token a ≡ None → a.place ≡ a.place + size a.text
nothing_left a e = grind (arith, texts a, hands_nothing a e)

-- the nodes of a text do so, if those of each shorter text do
first_reaches : (a : At) (w : Token × At) → first_token a ≡ Some w → ShorterReach a → Reaches a
first_reaches a w e more =
    let rest = past_token w.0 w.1 in
    let end = a.place + size a.text in
    let reach = takes_reaches _ a rest (scan_taken a w e) refl in
    let after = rw reach at (more rest (scan_shorter a _ w e refl)) in
    let there = token_stands a.place w.0 w.1 in
    subst (λ xs. Contiguous a.place (as_forest xs) end) (sym (nodes_first a w.1 w.0 e)) (
      there.0,
      rw there.1 (goes_on a w e),
      token_inside a w.0 w.1 e more,
      rw there.1 after,
    )

pub nodes_contiguous : (a : At)
    → Contiguous a.place (as_forest (nodes a)) (a.place + size a.text)
nodes_contiguous = by_length Reaches step
  where
    step : (a : At) → ShorterReach a → Reaches a
    step a more = by_token (first_token a) refl
      where
        by_token : (o : Option (Token × At)) → first_token a ≡ o → Reaches a
        by_token None e =
            subst (λ xs. Contiguous a.place (as_forest xs) (a.place + size a.text))
            (sym (nodes_none a e)) (nothing_left a e)
        by_token (Some w) e = first_reaches a w e more
