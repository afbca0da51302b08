-- The pieces of a text, one after the other.
use Rattle.std.proofs.Common.{◌≡◌, ℕ, zero, suc, ◌≤◌, Bool, false, List, [], ◌∷◌, length, arith, ap}
use Rattle.std.proofs.Common.{refl, Ok, Some, ◌+◌, eqb-true, Result, Err, ◌++◌, ◌∙◌, append_assoc}
use Rattle.std.proofs.lemmas.List.{append_cancel_right}
use Rattle.interpolator_syntax.specs.Places.{At, at, strip, strip_of}
use Rattle.interpolator_syntax.specs.Classes.{after_of, open_brace, close_brace, is_brace}
use Rattle.interpolator_syntax.specs.Arguments.{Argument, argument_at, argument_after}
use Rattle.interpolator_syntax.specs.Arguments.{plain_argument}
use Rattle.interpolator_syntax.specs.Pieces.{Step, argument_from, piece_from, past, pieces_within}
use Rattle.interpolator_syntax.specs.Pieces.{pieces, step, literal, argument_or_broken, text_up_to}
use Rattle.interpolator_syntax.specs.{declared.argument.ArgumentName.ArgumentName, Faults.Fault}
use Rattle.interpolator_syntax.proofs.{FrontLemmas.cut_at_rest, LocalityLemmas.takes_shorter}
use Rattle.interpolator_syntax.proofs.ReaderLemmas.{argument_takes}
use Rattle.std.specs.Char.{len_utf8}

pub after_shorter : (passes : ℕ → Bool) (cs : List ℕ) → length (after_of passes cs) ≤ length cs
after_shorter passes [] = omega arith
after_shorter passes (c ∷ cs) =
    grind (arith, after_shorter passes cs)

-- the text after a character that is there
pub strip_after : (c p : ℕ) (cs : List ℕ) (r : At) → strip_of c p cs ≡ Some r
    → (cs ≡ c ∷ r.text) × (r.place ≡ p + len_utf8 c)
strip_after c p cs r e = grind (arith, eqb-true)

-- a character that is no brace is a literal
pub literal_step : (p c : ℕ) (b : At) → is_brace c ≡ false
    → piece_from p c b ≡ step p (c ∷ []) (literal c) b
literal_step p c b h = grind arith

argument_or_broken_within :
    (p : ℕ) (b : At) (r : Result (Argument × At) Fault) → argument_at b ≡ r
    → length (argument_or_broken p b r).rest.text ≤ length b.text
argument_or_broken_within p b (Err f) e = omega arith
argument_or_broken_within p b (Ok x) e =
    grind (arith, takes_shorter b x.1 (argument_takes b x.0 x.1 e))

pub argument_from_within : (p : ℕ) (b : At) → length (argument_from p b).rest.text ≤ length b.text
unfolding argument_from
argument_from_within p b = argument_or_broken_within p b (argument_at b) refl

pub piece_within : (p c : ℕ) (b : At) → length (piece_from p c b).rest.text ≤ length b.text
piece_within p c b = grind (arith, argument_from_within p b)

-- the place of a piece is where it begins
abbrev BeginsAt : ℕ → Step → Type 0
BeginsAt p s = s.piece.place ≡ p

pub piece_begins : (p c : ℕ) (b : At) → BeginsAt p (piece_from p c b)
unfolding argument_from
piece_begins p c b = grind arith

-- any bound that is great enough yields the same pieces
enough : (n m p : ℕ) (cs : List ℕ) → length cs ≤ n → length cs ≤ m
    → pieces_within n p cs ≡ pieces_within m p cs
enough n m p [] h k = refl
enough zero m p (c ∷ cs) h k = absurd (omega arith)
enough (suc n) zero p (c ∷ cs) h k = absurd (omega arith)
enough (suc n) (suc m) p (c ∷ cs) h k =
    let s = piece_from p c (past p c cs) in
    grind (arith, piece_within p c (past p c cs), enough n m s.rest.place s.rest.text)

pub pieces_none : (p : ℕ) → pieces (record { place = p; text = [] }) ≡ []
unfolding pieces
pieces_none p = refl

-- the first piece, and then those of the text after it
pub pieces_next : (p c : ℕ) (cs : List ℕ)
    → pieces (record { place = p; text = c ∷ cs }) ≡ (piece_from p c (past p c cs)).piece ∷ pieces
    (piece_from p c (past p c cs)).rest
unfolding pieces
pieces_next p c cs =
    let s = piece_from p c (past p c cs) in
    let same = enough (length cs) (length s.rest.text) s.rest.place s.rest.text in
    grind (arith, piece_within p c (past p c cs), same)

-- the text of a closed argument
pub closed_text :
    (b r : At) (front : List ℕ) → b.text ≡ front ++ (close_brace ∷ r.text)
    → text_up_to b r ≡ open_brace ∷ (front ++ (close_brace ∷ []))
closed_text b r front e =
    let inner = front ++ (close_brace ∷ []) in
    let whole : open_brace ∷ b.text ≡ (open_brace ∷ inner) ++ r.text =
    rw append_assoc (ap (λ cs. open_brace ∷ cs) e) in
    append_cancel_right (text_up_to b r) (open_brace ∷ inner) r.text
    (cut_at_rest (open_brace ∷ b.text) r.text (open_brace ∷ inner, whole) ∙ whole)

-- a name with a closing brace after it stands for plain display
pub read_alone : (a : At) (n : ArgumentName) (r : At)
    → argument_at a ≡ argument_after a.place (plain_argument n) (at n.end)
    → strip close_brace (at n.end) ≡ Some r → argument_at a ≡ Ok (plain_argument n, at n.end)
read_alone a n r named closed = grind (arith, named, closed)
