-- Readers that agree with parts of a text, and how they are chained.
use Rattle.std.proofs.Common.{◌≡◌, ℕ, ◌+◌, List, [], ◌∷◌, arith, refl, sym, subst, Result, Ok, Err}
use Rattle.std.proofs.Common.{Option, Some, None, eqb-true}
use Rattle.std.specs.Char.{len_utf8}
use Rattle.interpolator_syntax.specs.Places.{At, size, first, strip, after}
use Rattle.interpolator_syntax.specs.Readers.{Reader, ◌>>=◌ as ◌>>>◌, give, letter as read_letter}
use Rattle.interpolator_syntax.specs.Readers.{flag as read_flag, run_before, run as read_run}
use Rattle.interpolator_syntax.specs.GrammarParts.{Part, ◌>>=◌, ends, at_place, Lies, letter, flag}
use Rattle.interpolator_syntax.specs.GrammarParts.{IsRun, run}
use Rattle.interpolator_syntax.specs.{Classes.front_of, Classes.in_class, Grammar.from_place}
use Rattle.interpolator_syntax.specs.{Grammar.NotFirst, Faults.Fault, declared.class.Class.Class}
use Rattle.interpolator_syntax.proofs.LongestLemmas.{at_same, front_longest, longest_front}
use Rattle.interpolator_syntax.proofs.CaseLemmas.{head_same}

pub ok_pair :
    {A : Type 0} {x y : A} {q r : At} → x ≡ y → q ≡ r
    → ◌≡◌ {A = Result (A × At) Fault} (Ok (x, q)) (Ok (y, r))
ok_pair e h = cc

-- what a reader returns is there
abbrev pub Says : {A : Type 0} → Part A → At → Result (A × At) Fault → Type 0
Says part a (Ok w) = part.is a w.0 w.1
Says part a (Err f) = part.is_not a f

-- a reader and a part that agree
pub record Agrees {A : Type 0} (read : Reader A) (part : Part A) : Type 0 where
  pub says : (a : At) → Says part a (read a)
  pub only : (a q : At) (x : A) → part.is a x q → read a ≡ Ok (x, q)
  pub only_not : (a : At) (f : Fault) → part.is_not a f → read a ≡ Err f

module _ {A : Type 0} {read : Reader A} {part : Part A} (h : Agrees read part) where
  pub agrees_is : (a q : At) (x : A) → read a ≡ Ok (x, q) → part.is a x q
  agrees_is a q x e = subst (Says part a) e (h.says a)

  pub agrees_is_not : (a : At) (f : Fault) → read a ≡ Err f → part.is_not a f
  agrees_is_not a f e = subst (Says part a) e (h.says a)

-- ---- chains

module _
    {A B : Type 0} {read : Reader A} {next : A → Reader B} {part : Part A} {after : A → Part B}
    (h : Agrees read part) (k : (x : A) → Agrees (next x) (after x)) where
  pub agrees_then : Agrees (read >>> next) (part >>= after)
  agrees_then = grind (arith, h, k)

pub agrees_ends : {A : Type 0} (x : A) → Agrees (give x) (ends x)
agrees_ends x = grind arith

-- a reader that returns the same as one that agrees
pub agrees_same :
    {A : Type 0} {read other : Reader A} {part : Part A} → ((a : At) → read a ≡ other a)
    → Agrees other part → Agrees read part
agrees_same same h = grind (arith, h, same)

pub agrees_placed :
    {A : Type 0} {read : ℕ → Reader A} {part : ℕ → Part A} → ((p : ℕ) → Agrees (read p) (part p))
    → Agrees (λ a. read a.place a) (at_place part)
agrees_placed h = grind (arith, h)

-- ---- the first character

pub lies_here :
    (p c : ℕ) (cs : List ℕ) → Lies (from_place p (c ∷ cs)) (c ∷ []) (from_place (p + len_utf8 c) cs)
lies_here p c cs = record { split = refl; place = omega arith }

pub lies_cons :
    (p c : ℕ) (cs ds : List ℕ) (q : At) → Lies (from_place (p + len_utf8 c) cs) ds q
    → Lies (from_place p (c ∷ cs)) (c ∷ ds) q
lies_cons p c cs ds q h = grind (arith, h)

-- the text after characters at a
pub lies_end : (a : At) (cs : List ℕ) (q : At) → Lies a cs q
    → from_place (a.place + size cs) q.text ≡ q
lies_end a cs q h = at_same (sym h.place) refl

past_end : (a : At) (c : ℕ) (q : At) → Lies a (c ∷ []) q
    → from_place (a.place + len_utf8 c) q.text ≡ q
past_end a c q h = at_same (omega (arith, h.place)) refl

pub first_lies : (a : At) (c : ℕ) (q : At) → Lies a (c ∷ []) q → first a ≡ Some (c, q)
first_lies a c q h = grind (arith, h.split, past_end a c q h)

-- what `strip` returns
abbrev pub Stripped : (c : ℕ) (a : At) → Option At → Type 0
Stripped c a (Some q) = Lies a (c ∷ []) q
Stripped c a None = NotFirst c a.text

pub stripped : (c : ℕ) (a : At) → Stripped c a (strip c a)
stripped c a = grind (arith, eqb-true)

pub strip_lies : (c : ℕ) (a q : At) → Lies a (c ∷ []) q → strip c a ≡ Some q
strip_lies c a q h = grind (arith, h.split, past_end a c q h)

pub strip_not : (c : ℕ) (a : At) → NotFirst c a.text → strip c a ≡ None
strip_not c a h = grind (arith, stripped c a, h)

-- ---- letters and flags

module _ {A : Type 0} (table : ℕ → Option A) (absent : A) where
  pub agrees_letter : Agrees (read_letter table absent) (letter table absent)
  agrees_letter = grind (arith, first_lies, head_same, ok_pair)

pub agrees_flag : (c : ℕ) → Agrees (read_flag c) (flag c)
agrees_flag c = grind (arith, stripped c, strip_lies c, strip_not c)

-- ---- runs

run_is :
    (class : Class) (a : At)
    → IsRun class a (front_of (in_class class) a.text) (after (in_class class) a)
run_is class a = record { longest = front_longest (in_class class) a.text; place = refl }

run_says :
    (class : Class) (start : ℕ) (a : At) (cs : List ℕ) (p : ℕ) (ds : List ℕ)
    → IsRun class a cs (from_place p ds)
    → Says (run class start) a (run_before start cs (from_place p ds) ds)
run_says class start a cs p ds h = grind arith

pub agrees_run : (class : Class) (start : ℕ)
    → Agrees (read_run (in_class class) start) (run class start)
agrees_run class start =
    grind (arith, run_says class start, run_is class, longest_front (in_class class))
