-- The pieces of a text that another text follows.
use Rattle.std.proofs.Common.{◌≡◌, ◌≢◌, ℕ, zero, suc, ◌+◌, ◌-◌, ◌≤◌, true, List, [], ◌∷◌, ◌++◌}
use Rattle.std.proofs.Common.{length, take, arith, refl, ◌∙◌, subst, Result, Ok, Err, Option, Some}
use Rattle.std.proofs.Common.{None, length-append}
use Rattle.std.proofs.lemmas.List.{take-append-le}
use native.Mathlib.Numerals.{unary_clauses}
use Rattle.std.specs.Char.{len_utf8}
use Rattle.interpolator_syntax.specs.Places.{At, size, strip, strip_of}
use Rattle.interpolator_syntax.specs.Pieces.{Piece, Step, argument_step, argument_or_broken}
use Rattle.interpolator_syntax.specs.Pieces.{argument_from, piece_from, past, pieces}
use Rattle.interpolator_syntax.specs.{Classes.open_brace, Classes.close_brace, Arguments.Argument}
use Rattle.interpolator_syntax.specs.{Arguments.argument_at, Faults.Fault}
use Rattle.interpolator.specs.Seams.{piece_ending, last_ending, ending, may_follow}
use Rattle.interpolator.specs.declared.parts.Ending.{Ending}
use Rattle.interpolator.specs.declared.parts.Ending.TheVariants.{Settled, Open}
use Rattle.interpolator_syntax.proofs.LocalityLemmas.{stands, with_more}
use Rattle.interpolator_syntax.proofs.ReaderLemmas.{argument_takes, argument_same}
use Rattle.interpolator_syntax.proofs.PieceLemmas.{piece_within, pieces_none, pieces_next}
use Rattle.interpolator_syntax.proofs.PieceLemmas.{strip_after}
use Rattle.interpolator_syntax.proofs.{CaseLemmas.none_some, GrammarPieceLemmas.step_reaches}

-- a text that follows one that ends so leaves the pieces of that one as they are
abbrev pub Leaves : Ending → List ℕ → Type 0
Leaves e more = (e ≢ Open) × (may_follow e more ≡ true)

-- ---- one character ahead

strip_more :
    (c p : ℕ) (cs more : List ℕ) (r : At) → strip_of c p cs ≡ Some r
    → strip_of c p (cs ++ more) ≡ Some (with_more r more)
strip_more c p cs more r e = grind (arith, none_some)

strip_none_more :
    (c p : ℕ) (cs more : List ℕ) → strip_of c p cs ≡ None → cs ≢ []
    → strip_of c p (cs ++ more) ≡ None
strip_none_more c p cs more e h = grind arith

-- ---- arguments

-- a closed argument is the same whatever comes after it
pub closed_same :
    (a : At) (more : List ℕ) (x : Argument) (q : At) (rest : List ℕ) → argument_at a ≡ Ok (x, q)
    → q.text ≡ close_brace ∷ rest → argument_at (with_more a more) ≡ Ok (x, with_more q more)
closed_same a more x q rest e closes = grind (arith, argument_same)

-- ---- pieces

-- what the last piece requires of the text after it
abbrev Goes : Step → List ℕ → Type 0
Goes s more = s.rest.text ≡ [] → Leaves (piece_ending s.piece) more

abbrev step_more : Step → List ℕ → Step
step_more s more = record { piece = s.piece; rest = with_more s.rest more }

cut_more :
    (cs r more : List ℕ) → length r ≤ length cs
    → take (length (cs ++ more) - length (r ++ more)) (cs ++ more) ≡ take (length cs - length r) cs
cut_more cs r more h = grind (arith, length-append, take-append-le)

module _ (p : ℕ) (b : At) (more : List ℕ) where
  closed_more :
      (x : Argument) (q : At) (o : Option At) → argument_at b ≡ Ok (x, q) → strip close_brace q ≡ o
      → Goes (argument_step p b x q o) more
      → argument_or_broken p (with_more b more) (argument_at (with_more b more))
      ≡ step_more (argument_step p b x q o) more
  closed_more x q None e d g = grind arith
  closed_more x q (Some r) e d g =
      let front = argument_takes b x q e in
      let closes = (strip_after close_brace q.place q.text r d).0 in
      grind (
        arith,
        closed_same b more x q r.text e closes,
        strip_more close_brace q.place q.text more r d,
        front.split,
        length-append front.front q.text,
        cut_more (open_brace ∷ b.text) r.text more,
      )

  argument_more :
      (o : Result (Argument × At) Fault) → argument_at b ≡ o
      → Goes (argument_or_broken p b o) more
      → argument_or_broken p (with_more b more) (argument_at (with_more b more))
      ≡ step_more (argument_or_broken p b o) more
  argument_more (Err f) e g = grind arith
  argument_more (Ok w) e g = closed_more w.0 w.1 (strip close_brace w.1) e refl g

  argument_from_more : Goes (argument_from p b) more
      → argument_from p (with_more b more) ≡ step_more (argument_from p b) more
  unfolding argument_from
  argument_from_more g = grind (arith, argument_more)

-- after a brace at the end of the text there is no closed argument
brace_last : (p q : ℕ) (more : List ℕ) → Goes (argument_from p (stands q [])) more → ⊥
unfolding argument_from argument_at
brace_last p q more g = (g refl).0 refl

module _ (p : ℕ) (more : List ℕ) where
  piece_more :
      (c q : ℕ) (cs : List ℕ) → Goes (piece_from p c (stands q cs)) more
      → piece_from p c (stands q (cs ++ more)) ≡ step_more (piece_from p c (stands q cs)) more
  piece_more c q cs g =
      grind (
        arith,
        strip_more,
        strip_none_more,
        brace_last p q more,
        argument_from_more p (stands q cs) more,
      )

-- ---- whole texts

-- what is left of the pieces, if any, ends as all do
rest_leaves : (e : Ending) (xs : List Piece) (more : List ℕ) → Leaves (last_ending e xs) more
    → Leaves (last_ending Settled xs) more
rest_leaves e [] more h = grind arith
rest_leaves e (x ∷ xs) more h = h

last_leaves : (e : Ending) (a : At) (more : List ℕ) → Leaves (last_ending e (pieces a)) more
    → a.text ≡ [] → Leaves e more
last_leaves e a more h none = grind (arith, pieces_none a.place)

-- the pieces of two texts are those of the first, and then those of the second
pub pieces_append :
    (n p : ℕ) (cs more : List ℕ) → length cs ≤ n → Leaves (ending (stands p cs)) more
    → pieces (stands p (cs ++ more)) ≡ pieces (stands p cs) ++ pieces (stands (p + size cs) more)
pieces_append n p [] more h m = simp (unary_clauses, pieces_none p)
pieces_append zero p (c ∷ cs) more h m = absurd (omega arith)
pieces_append (suc n) p (c ∷ cs) more h m =
    let s = piece_from p c (past p c cs) in
    let leaves = subst (λ xs. Leaves (last_ending Settled xs) more) (pieces_next p c cs) m in
    let same =
    piece_more p more c (p + len_utf8 c) cs
    (last_leaves (piece_ending s.piece) s.rest more leaves) in
    let shorter : length s.rest.text ≤ n = omega (arith, h, piece_within p c (past p c cs)) in
    pieces_next p c (cs ++ more)
    ∙ rw (
      same,
      pieces_append n s.rest.place s.rest.text more shorter
          (rest_leaves (piece_ending s.piece) (pieces s.rest) more leaves),
      step_reaches p c cs,
      pieces_next p c cs,
    ) refl

-- ---- how two texts end

pub last_append : (e : Ending) (xs ys : List Piece)
    → last_ending e (xs ++ ys) ≡ last_ending (last_ending e xs) ys
last_append e [] ys = refl
last_append e (x ∷ xs) ys = last_append (piece_ending x) xs ys

not_open : (e : Ending) (xs : List Piece) → e ≢ Open → last_ending Settled xs ≢ Open
    → last_ending e xs ≢ Open
not_open e [] h k = h
not_open e (x ∷ xs) h k = k

pub both_close :
    (p : ℕ) (cs more : List ℕ) → Leaves (ending (stands p cs)) more
    → ending (stands (p + size cs) more) ≢ Open → ending (stands p (cs ++ more)) ≢ Open
both_close p cs more h k = grind (arith, pieces_append, last_append, stands, not_open)
