-- The pieces that the reader finds are each of the first kind that its place allows.
use Rattle.std.proofs.Common.{rules, ◌≡◌, ◌≢◌, ℕ, zero, suc, ◌+◌, ◌≤◌, List, [], ◌∷◌, ◌++◌, length}
use Rattle.std.proofs.Common.{arith, refl, ap, sym, Result, Ok, Option, Some, None, append_assoc}
use Rattle.std.proofs.Common.{append-nil, eqb-true}
use Rattle.std.proofs.lemmas.Bool.{eqb-false, cond_both}
use Rattle.interpolator_syntax.specs.Places.{At, size, strip, strip_of}
use Rattle.interpolator_syntax.specs.Pieces.{PieceKind, Step, argument_step, argument_or_broken}
use Rattle.interpolator_syntax.specs.Pieces.{argument_from, open_step, close_step, piece_from, past}
use Rattle.interpolator_syntax.specs.Pieces.{pieces}
use Rattle.interpolator_syntax.specs.Grammar.{rank, from_place, NotFirst, Fits, IsPieces}
use Rattle.interpolator_syntax.specs.{Classes.open_brace, Classes.close_brace, Arguments.Argument}
use Rattle.interpolator_syntax.specs.{Arguments.argument_at, Faults.Fault}
use Rattle.interpolator_syntax.proofs.PieceLemmas.{piece_within, pieces_none, pieces_next}
use Rattle.interpolator_syntax.proofs.PieceLemmas.{strip_after, closed_text}
use Rattle.interpolator_syntax.proofs.GrammarLemmas.{Shows, stands_shown, same_ok}
use Rattle.interpolator_syntax.proofs.{CaseLemmas.err_ok, LocalityLemmas.size-append}
use Rattle.interpolator_syntax.proofs.ReaderLemmas.{argument_takes}

-- stripping a text that begins with the character c
strip_none : (c p : ℕ) (cs : List ℕ) → strip_of c p cs ≡ None → NotFirst c cs
strip_none c p cs e ds h = grind (arith, eqb-false)

-- a step returns the first piece, and the text after it
abbrev IsFirstStep : (p c : ℕ) → List ℕ → Step → Type 0
IsFirstStep p c cs s =
    (s.piece.place ≡ p) × (c ∷ cs ≡ s.piece.text ++ s.rest.text)
    × Fits p s.piece.kind s.piece.text s.rest.text
    × ((k : PieceKind) (r : List ℕ) → Shows p c cs k r → rank s.piece.kind ≤ rank k)
    × (s.rest.place ≡ p + size s.piece.text)

-- ---- what comes after what

-- a character that is no brace is a literal
literal_first :
    (p c : ℕ) (cs : List ℕ) → c ≢ open_brace → c ≢ close_brace → (k : PieceKind) (r : List ℕ)
    → Shows p c cs k r → 4 ≤ rank k
literal_first p c cs no_open no_close k r h = grind arith

-- an opening brace with no second one after it begins an argument
closed_first :
    (p : ℕ) (cs : List ℕ) → NotFirst open_brace cs → (k : PieceKind) (r : List ℕ)
    → Shows p open_brace cs k r → 1 ≤ rank k
closed_first p cs no_more k r h = grind arith

-- there is no argument that ends in front of a closing brace
abbrev NotClosed : At → Type 0
NotClosed b = (x : Argument) (end : ℕ) (more : List ℕ)
    → argument_at b ≢ Ok (x, from_place end (close_brace ∷ more))

ends_elsewhere :
    (b : At) (x : Argument) (q : At) → argument_at b ≡ Ok (x, q) → NotFirst close_brace q.text
    → NotClosed b
ends_elsewhere b x q reads no_close y end more h = grind (arith, no_close more, same_ok, reads, h)

-- what is not closed takes all the rest
unclosed_first :
    (p : ℕ) (cs : List ℕ) → NotFirst open_brace cs
    → NotClosed (from_place (p + 1) cs)
    → (k : PieceKind) (r : List ℕ) → Shows p open_brace cs k r → 2 ≤ rank k
unclosed_first p cs no_more not_closed k r h = grind arith

-- ---- the steps

close_first :
    (p : ℕ) (cs : List ℕ) (o : Option At) → strip close_brace (past p close_brace cs) ≡ o
    → IsFirstStep p close_brace cs (close_step p (past p close_brace cs) o)
close_first p cs o e = grind (arith, strip_none, strip_after)

-- an argument that ends at q
argument_step_first :
    (p : ℕ) (cs : List ℕ) (x : Argument) (q : At) (o : Option At)
    → NotFirst open_brace cs → argument_at (from_place (p + 1) cs) ≡ Ok (x, q)
    → strip close_brace q ≡ o
    → IsFirstStep p open_brace cs (argument_step p (from_place (p + 1) cs) x q o)
argument_step_first p cs x q None no_more reads e =
    let none = strip_none close_brace q.place q.text e in
    let elsewhere = ends_elsewhere (from_place (p + 1) cs) x q reads none in (
      refl,
      sym (append-nil (open_brace ∷ cs)),
      record {
        inner = cs;
        left = q.text;
        takes_all = refl;
        in_front = refl;
        begins = refl;
        reads = reads;
        not_closed = none;
      },
      unclosed_first p cs no_more elsewhere,
      omega arith,
    )
argument_step_first p cs x q (Some rest) no_more reads e =
    let b = from_place (p + 1) cs in
    let front = argument_takes b x q reads in
    let close = strip_after close_brace q.place q.text rest e in
    let inner = front.front in
    let whole : cs ≡ inner ++ (close_brace ∷ rest.text) = rw (← close.0) front.split in
    let text = closed_text b rest inner whole in (
      refl,
      rw (text, append_assoc) (ap (λ xs. open_brace ∷ xs) whole),
      record {
        inner = inner;
        in_braces = text;
        begins = refl;
        reads = rw (← whole, ← close.0) reads;
      },
      closed_first p cs no_more,
      omega (arith, ap size text, size-append inner (close_brace ∷ []), close.1, front.place),
    )

argument_first :
    (p : ℕ) (cs : List ℕ) (o : Result (Argument × At) Fault) → NotFirst open_brace cs
    → argument_at (from_place (p + 1) cs) ≡ o
    → IsFirstStep p open_brace cs (argument_or_broken p (from_place (p + 1) cs) o)
argument_first p cs o no_more reads =
    grind (arith, argument_step_first, unclosed_first, err_ok, append-nil)

open_first :
    (p : ℕ) (cs : List ℕ) (o : Option At) → strip open_brace (past p open_brace cs) ≡ o
    → IsFirstStep p open_brace cs (open_step p (past p open_brace cs) o)
unfolding argument_from
open_first p cs o e = grind (arith, argument_first, strip_none, strip_after)

step_first : (p c : ℕ) (cs : List ℕ) → IsFirstStep p c cs (piece_from p c (past p c cs))
step_first p c cs =
    search (rules, cond_both, eqb-true, open_first, close_first, literal_first, eqb-false)

are_pieces :
    (most p : ℕ) (cs : List ℕ) → length cs ≤ most
    → IsPieces (from_place p cs) (pieces (from_place p cs))
are_pieces most p [] h = rw (pieces_none p) refl
are_pieces zero p (c ∷ cs) h = absurd (omega arith)
are_pieces (suc most) p (c ∷ cs) h =
    let s = piece_from p c (past p c cs) in
    let shorter = piece_within p c (past p c cs) in
    let more = are_pieces most s.rest.place s.rest.text in
    grind (arith, pieces_next p c cs, step_first p c cs, stands_shown p c cs, shorter, more)

-- the pieces that the reader finds are pieces of the text
pub pieces_are : (a : At) → IsPieces a (pieces a)
pieces_are a = are_pieces (length a.text) a.place a.text (omega arith)

-- the text after the first piece ends where the text ends
pub step_reaches :
    (p c : ℕ) (cs : List ℕ)
    → (piece_from p c (past p c cs)).rest.place + size (piece_from p c (past p c cs)).rest.text
    ≡ p + size (c ∷ cs)
step_reaches p c cs = grind (arith, step_first, size-append)
