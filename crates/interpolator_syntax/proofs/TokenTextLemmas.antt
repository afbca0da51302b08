-- Tokens, and the text after them, as parts of the whole text.
use Rattle.std.proofs.Common.{◌≡◌, ℕ, ◌+◌, List, [], ◌∷◌, ◌++◌, arith, refl, sym, subst, Option}
use Rattle.std.proofs.Common.{Some, None, Result, Ok, Err, append-nil}
use Rattle.std.specs.Char.{len_utf8}
use Rattle.interpolator_syntax.specs.Places.{At, size, strip, all_after}
use Rattle.interpolator_syntax.specs.Classes.{in_class, open_brace, close_brace}
use Rattle.interpolator_syntax.specs.Arguments.{Argument, argument_at}
use Rattle.interpolator_syntax.specs.Pieces.{argument_from, argument_or_broken, argument_step}
use Rattle.interpolator_syntax.specs.Tokens.{Token, literals, doubled, lone_close, argument}
use Rattle.interpolator_syntax.specs.Tokens.{open_scan, close_scan, no_open_scan, scan_by}
use Rattle.interpolator_syntax.specs.Tokens.{first_token, past_token, literal_scan}
use Rattle.interpolator_syntax.specs.{Faults.Fault, declared.class.Class.TheVariants.Literal}
use Rattle.interpolator_syntax.proofs.LocalityLemmas.{Takes, takes_none, takes_then, takes_after}
use Rattle.interpolator_syntax.proofs.{FrontLemmas.front_after, PieceLemmas.strip_after}
use Rattle.interpolator_syntax.proofs.ReaderLemmas.{argument_takes}

-- the end of the text
takes_all_after : (a : At) → Takes a (all_after a)
takes_all_after a = record { front = a.text; split = sym (append-nil a.text); place = refl }

-- ---- tokens

-- the characters of a token that are written; of an argument its brace
abbrev pub written_text : Token → List ℕ
written_text (literals cs) = cs
written_text (doubled c) = c ∷ []
written_text lone_close = close_brace ∷ []
written_text argument = open_brace ∷ []

-- how many bytes a token at p takes, up to b
abbrev pub WrittenSize : ℕ → Token → At → Type 0
WrittenSize p (literals cs) b = b.place ≡ p + size cs
WrittenSize p (doubled c) b = (len_utf8 c ≡ 1) × (b.place ≡ p + 2)
WrittenSize p lone_close b = b.place ≡ p + 1
WrittenSize p argument b = b.place ≡ p + 1

-- the token begins the text at a, and b is after a front of it
pub record TakesToken (a : At) (x : Token) (b : At) : Type 0 where
  pub takes : Takes a b
  pub more : List ℕ
  pub begins : a.text ≡ written_text x ++ more
  pub size : WrittenSize a.place x b

abbrev MayTakeToken : At → Option (Token × At) → Type 0
MayTakeToken a None = Unit {0}
MayTakeToken a (Some w) = TakesToken a w.0 w.1

-- after one character
one_taken : (a : At) (c : ℕ) (b : At) → a.text ≡ c ∷ b.text → b.place ≡ a.place + len_utf8 c
    → Takes a b
one_taken a c b e p = record { front = c ∷ []; split = e; place = omega (arith, p) }

module _ (a b : At) where
  takes_doubled :
      (c : ℕ) (r : At) → len_utf8 c ≡ 1 → a.text ≡ c ∷ b.text → b.place ≡ a.place + len_utf8 c
      → b.text ≡ c ∷ r.text → r.place ≡ b.place + len_utf8 c → TakesToken a (doubled c) r
  takes_doubled c r one e p f q = grind (arith, takes_then a b r, one_taken)

  takes_open :
      a.text ≡ open_brace ∷ b.text → b.place ≡ a.place + 1 → (o : Option At)
      → strip open_brace b ≡ o → MayTakeToken a (Some (open_scan b o))
  takes_open e p None k =
      record { takes = one_taken a open_brace b e p; more = b.text; begins = e; size = p }
  takes_open e p (Some r) k =
      grind (arith, takes_doubled, strip_after open_brace b.place b.text r k)

  takes_close :
      a.text ≡ close_brace ∷ b.text → b.place ≡ a.place + 1 → (o : Option At)
      → strip close_brace b ≡ o → MayTakeToken a (Some (close_scan b o))
  takes_close e p None k =
      record { takes = one_taken a close_brace b e p; more = b.text; begins = e; size = p }
  takes_close e p (Some r) k =
      grind (arith, takes_doubled, strip_after close_brace b.place b.text r k)

takes_literals : (a : At) (cs : List ℕ) → MayTakeToken a (literal_scan a cs)
takes_literals a cs =
    grind (arith, takes_after (in_class Literal) a, front_after (in_class Literal) a.text)

takes_no_open : (a : At) (o : Option At) → strip close_brace a ≡ o
    → MayTakeToken a (no_open_scan a o)
takes_no_open a o e = grind (arith, takes_literals, strip_after, takes_close)

takes_scan : (a : At) (o : Option At) → strip open_brace a ≡ o → MayTakeToken a (scan_by a o)
takes_scan a o e = grind (arith, takes_no_open, strip_after, takes_open)

pub takes_token : (a : At) (w : Token × At) → first_token a ≡ Some w → TakesToken a w.0 w.1
unfolding first_token
takes_token a w e = subst (MayTakeToken a) e (takes_scan a (strip open_brace a) refl)

-- ---- the text after an argument

step_taken :
    (p : ℕ) (a : At) (x : Argument) (q : At) (o : Option At) → Takes a q → strip close_brace q ≡ o
    → Takes a (argument_step p a x q o).rest
step_taken p a x q o t e = grind (arith, takes_all_after, strip_after, takes_then, one_taken)

or_broken_taken :
    (p : ℕ) (a : At) (o : Result (Argument × At) Fault) → argument_at a ≡ o
    → Takes a (argument_or_broken p a o).rest
or_broken_taken p a (Ok w) e = step_taken p a w.0 w.1 _ (argument_takes a w.0 w.1 e) refl
or_broken_taken p a (Err f) e = takes_all_after a

argument_taken : (p : ℕ) (a : At) → Takes a (argument_from p a).rest
unfolding argument_from
argument_taken p a = or_broken_taken p a (argument_at a) refl

past_taken : (x : Token) (b : At) → Takes b (past_token x b)
past_taken x b = grind (arith, argument_taken, takes_none)

-- the text after a token, and after its argument
pub scan_taken : (a : At) (w : Token × At) → first_token a ≡ Some w → Takes a (past_token w.0 w.1)
scan_taken a w e =
    takes_then a w.1 (past_token w.0 w.1) (takes_token a w e).takes (past_taken w.0 w.1)
