-- A text with deeply nested groups is long: a group in another has fewer signs than the outer one.
use Rattle.std.proofs.Common.{◌≡◌, ◌≢◌, refl, ap, arith, ℕ, zero, suc, ◌+◌, ◌*◌, ◌<◌, ◌≤◌, List}
use Rattle.std.proofs.Common.{◌∷◌, ◌++◌, length, append_assoc, Option, Some, None, Result, ◌-◌}
use Rattle.std.proofs.{lemmas.Bool.cases_lt, lemmas.List.length-append}
use native.Mathlib.Numerals.{unary_clauses}
use Rattle.std.specs.Prelude.{max}
use Rattle.interpolator_syntax.specs.GroupGrammar.{sign_text, open_text, close_text, IsGroup}
use Rattle.interpolator_syntax.specs.Pieces.{argument_from, argument_or_broken, argument_step}
use Rattle.interpolator_syntax.specs.Tokens.{Token, first_token, past_token}
use Rattle.interpolator_syntax.specs.Nodes.{as_forest, piece_node, token_node, nodes}
use Rattle.interpolator_syntax.specs.{Places.At, Arguments.Argument, Arguments.argument_at}
use Rattle.interpolator_syntax.specs.{Classes.hash, Faults.Fault, Groups.Group, Groups.inside}
use Rattle.interpolator_syntax.proofs.GrammarGroupLemmas.{sign_length}
use Rattle.interpolator_syntax.proofs.GuardLemmas.{GroupAfter, KindAfter, argument_after}
use Rattle.interpolator_syntax.proofs.LocalityLemmas.{Takes, takes_then}
use Rattle.interpolator_syntax.proofs.TokenLemmas.{token_shorter, scan_shorter}
use Rattle.interpolator_syntax.proofs.NodeLemmas.{by_length, nodes_first, nodes_none}
use Rattle.interpolator_syntax.proofs.TokenTextLemmas.{takes_token, scan_taken}
use Rattle.interpolator_pieces.specs.NodeExtents.{node_depth, forest_depth}

-- ---- what closes a group

more_signs : (k n : ℕ) → sign_text (n + k) ≡ sign_text k ++ sign_text n
more_signs zero n = ap sign_text (omega arith)
more_signs (suc k) n = simp unary_clauses (ap (λ xs. hash ∷ xs) (more_signs k n))

-- a text in which no `)` has k signs right after it
abbrev pub NoClose : ℕ → List ℕ → Type 0
NoClose k cs = (front rest : List ℕ) → cs ≢ front ++ (close_text k ++ rest)

-- neither has what follows the front of such a text
after_front : (k : ℕ) (a b : At) → Takes a b → NoClose k a.text → NoClose k b.text
after_front k a b t none front rest e =
    none (t.front ++ front) rest (rw (append_assoc, ← e) t.split)

-- what closes a group with more signs closes one with fewer
closes_fewer : (k n : ℕ) (rest : List ℕ)
    → close_text (n + k) ++ rest ≡ close_text k ++ (sign_text n ++ rest)
closes_fewer k n rest = grind (arith, more_signs, append_assoc)

-- so a group in such a text has fewer signs
fewer_signs : (j k : ℕ) (cs front rest : List ℕ) → NoClose j cs
    → cs ≡ front ++ (close_text k ++ rest) → k < j
fewer_signs j k cs front rest none e =
    grind (arith, closes_fewer j (k - j) rest, none front (sign_text (k - j) ++ rest))

-- ---- one group

module _ (a : At) (g : Group) (q : At) (h : IsGroup a g q) where
  group_fewer : (j : ℕ) → NoClose j a.text → h.k < j
  group_fewer j none =
      fewer_signs j h.k a.text (open_text h.k ++ g.text) q.text none (rw append_assoc h.split)

  group_no_close : NoClose h.k g.text
  group_no_close = grind (arith, append_assoc)

  -- a group takes its signs twice, and its brackets
  group_length : (h.k + 1) + (length g.text + (1 + h.k)) ≤ length a.text
  group_length = grind (arith, length-append, sign_length)

-- ---- the greater of two

-- what holds of both holds of the greater
of_greater : (P : ℕ → Type 0) (m n : ℕ) → P m → P n → P (max m n)
of_greater P m n p q = grind (arith, cases_lt m n)

-- ---- the pieces of a text

-- P holds of 0 and of the depth of each group of an argument that begins in the text at a
module _ (P : ℕ → Type 0) (none : P 0) (b : At)
    (each : (g : Group) → GroupAfter 2 (Some g) b
    → P (suc (forest_depth (as_forest (nodes (inside g)))))) where
  by_strip : (p end : ℕ) (x : Argument) (q : At) (o : Option At) → KindAfter 2 x.kind b
      → P (node_depth (piece_node nodes p end (argument_step b.place b x q o).piece.kind))
  by_strip p end x q o h = grind (arith, of_greater)

  by_answer : (p end : ℕ) (r : Result (Argument × At) Fault) → argument_at b ≡ r
      → P (node_depth (piece_node nodes p end (argument_or_broken b.place b r).piece.kind))
  by_answer p end r e = grind (arith, by_strip, argument_after, of_greater)

  by_token : (p : ℕ) (t : Token) → P (node_depth (token_node nodes p t b))
  unfolding argument_from
  by_token p t = grind (arith, by_answer, of_greater)

-- what holds of 0, of the depth of what follows the first piece and of that of each of its groups,
-- holds of the depth of the text
deeper : (P : ℕ → Type 0) (a : At) → P 0
    → ((b : At) → length b.text < length a.text → Takes a b
    → P (forest_depth (as_forest (nodes b))))
    → ((b : At) → length b.text < length a.text → Takes a b → (g : Group)
    → GroupAfter 2 (Some g) b → P (suc (forest_depth (as_forest (nodes (inside g))))))
    → P (forest_depth (as_forest (nodes a)))
deeper P a none after each =
    elim (first_token a) as (λ o. first_token a ≡ o → P (forest_depth (as_forest (nodes a)))) [
      | None ↦ λ e. rw (nodes_none a e) none
      | Some w ↦ λ e.
          let own = each w.1 (token_shorter a w e) (takes_token a w e).takes in
          rw (nodes_first a w.1 w.0 e) (of_greater P _ _ (by_token P none w.1 own a.place w.0)
          (after (past_token w.0 w.1) (scan_shorter a _ w e refl) (scan_taken a w e)))
    ] refl

-- in a text in which no `)` has j signs right after it, groups are nested at most j deep
abbrev Bounded : At → Type 0
Bounded a = (j : ℕ) → NoClose j a.text → forest_depth (as_forest (nodes a)) ≤ j

signs_bound : (a : At) → Bounded a
signs_bound = by_length Bounded (λ a shorter j none.
    deeper (λ d. d ≤ j) a (omega arith)
    (λ b l t. shorter b l j (after_front j a b t none))
    (λ b l t g h.
    let k = h.is.k in
    let takes = takes_then a b h.opens t h.takes in
    let fewer : k < j =
    group_fewer h.opens g h.closed h.is j (after_front j a h.opens takes none) in
    let less : length g.text < length a.text =
    omega (arith, group_length h.opens g h.closed h.is, h.far, l) in
    let most = shorter (inside g) less k (group_no_close h.opens g h.closed h.is) in
    omega (arith, fewer, most)))

-- and a text of depth d has at least d * (d + 4) characters
abbrev LongEnough : At → Type 0
LongEnough a =
    forest_depth (as_forest (nodes a)) * (forest_depth (as_forest (nodes a)) + 4) ≤ length a.text

-- one more group, guarded by as many signs as its text is deep, and five characters besides
one_deeper : (d k inner whole : ℕ) → d * (d + 4) ≤ inner → d ≤ k
    → 2 + ((k + 1) + (inner + (1 + k))) < whole → suc d * (suc d + 4) ≤ whole
one_deeper d k inner whole h l m = grind arith

pub deep_is_long : (a : At)
    → forest_depth (as_forest (nodes a)) * (forest_depth (as_forest (nodes a)) + 4) ≤ length a.text
deep_is_long = by_length LongEnough (λ a shorter.
    deeper (λ d. d * (d + 4) ≤ length a.text) a (omega arith)
    (λ b l t. let rest = shorter b l in omega (arith, rest, l))
    (λ b l t g h.
    let size = group_length h.opens g h.closed h.is in
    let less : length g.text < length a.text = omega (arith, size, h.far, l) in
    one_deeper _ h.is.k (length g.text) (length a.text) (shorter (inside g) less)
    (signs_bound (inside g) h.is.k (group_no_close h.opens g h.closed h.is))
    (omega (arith, size, h.far, l))))
