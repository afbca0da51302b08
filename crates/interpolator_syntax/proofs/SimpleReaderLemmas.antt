-- The law of a reader: it agrees with its part, and is local; and the readers
-- that the parts of an argument are made of.
use Rattle.std.proofs.Common.{◌≡◌, ℕ, ◌+◌, Bool, false, List, [], ◌∷◌, ◌++◌, arith, refl, Option}
use Rattle.std.proofs.Common.{inl, inr, append-nil}
use Rattle.interpolator_syntax.specs.Readers.{Reader, ◌>>=◌ as ◌>>>◌, give, here, span}
use Rattle.interpolator_syntax.specs.Readers.{read_or_stay, letter_first, was_there}
use Rattle.interpolator_syntax.specs.Readers.{letter as read_letter, flag as read_flag, run}
use Rattle.interpolator_syntax.specs.GrammarParts.{Part, ◌>>=◌, ends, letter, flag}
use Rattle.interpolator_syntax.specs.{Places.At, Places.after, Classes.front_of, Classes.after_of}
use Rattle.interpolator_syntax.specs.declared.class.Class.{Class}
use Rattle.interpolator_syntax.proofs.GrammarPartLemmas.{ok_pair, Agrees, agrees_then, agrees_ends}
use Rattle.interpolator_syntax.proofs.GrammarPartLemmas.{agrees_same, agrees_letter, agrees_flag}
use Rattle.interpolator_syntax.proofs.LocalLemmas.{Setting, stays, elsewhere, IsSettled, IsLocal}
use Rattle.interpolator_syntax.proofs.LocalLemmas.{Reads, local_stay, local_first, local_strip}
use Rattle.interpolator_syntax.proofs.LocalLemmas.{value_local, reads_then}
use Rattle.interpolator_syntax.proofs.LocalityLemmas.{Takes, takes_after}

module _ (s : Setting) where
  -- ---- the longest front

  module _ (passes : ℕ → Bool) where
    -- the longest front of a text, and with more after it
    abbrev SameFront : List ℕ → Type 0
    SameFront cs =
        (front_of passes (cs ++ s.more) ≡ front_of passes cs)
        × (after_of passes (cs ++ s.more) ≡ after_of passes cs ++ s.more)

    -- if a closing brace is left, the front is the same whatever comes after the text
    same_front : (cs : List ℕ) → IsSettled s (after_of passes cs) → SameFront cs
    same_front cs (inr e) = grind (arith, append-nil)
    same_front [] (inl guard) = absurd guard
    same_front (c ∷ cs) (inl guard) = grind (arith, same_front cs)

    after_elsewhere : (a : At) → IsSettled s (after_of passes a.text)
        → (front_of passes (a.text ++ s.more) ≡ front_of passes a.text)
        × (after passes (elsewhere s a) ≡ elsewhere s (after passes a))
    after_elsewhere a t = grind (arith, same_front a.text t)

  -- ---- the readers

  pub reads_give : {A : Type 0} (move : A → A) (x : A) → Reads s move (give x) (give (move x))
  reads_give move x = grind (arith, local_stay)

  pub reads_here : Reads s (λ p. p + s.by) here here
  reads_here = grind (arith, local_stay)

  pub reads_span : (class : Class) → Reads s stays (span class) (span class)
  reads_span class = grind (arith, takes_after, after_elsewhere, ok_pair)

  pub reads_run :
      (passes : ℕ → Bool) → Reads s stays (run passes s.start) (run passes (s.start + s.by))
  reads_run passes = grind (arith, append-nil, takes_after, after_elsewhere, elsewhere)

-- ---- the law of a reader

-- it agrees with a part, and is local
pub record Law (s : Setting) {A : Type 0} (move : A → A) (read other : Reader A) (part : Part A)
    : Type 0 where
  pub agrees : Agrees read part
  pub reads : Reads s move read other

-- by what each of its results is
pub law_of :
    {s : Setting} {A : Type 0} {move : A → A} {read other : Reader A} {part : Part A}
    → Agrees read part → ((a : At) → IsLocal s move a (read a) (other (elsewhere s a)))
    → Law s move read other part
law_of agrees is_local = record { agrees = agrees; reads = record { is_local = is_local } }

-- one reader, and after it the next
pub law_then :
    {s : Setting} {A B : Type 0} {move : A → A} {next : B → B} {read other : Reader A}
    {part : Part A} {g : A → Reader B} {after : A → Part B} (h : A → Reader B)
    → Law s move read other part → ((x : A) → Law s next (g x) (h (move x)) (after x))
    → Law s next (read >>> g) (other >>> h) (part >>= after)
law_then h first then = grind (arith, agrees_then, reads_then)

-- a reader that returns the same as one for which it holds
pub law_same :
    {s : Setting} {A : Type 0} {move : A → A} {read other f g : Reader A} {part : Part A}
    → ((a : At) → f a ≡ read a) → ((a : At) → g a ≡ other a) → Law s move read other part
    → Law s move f g part
law_same same same_there law = grind (arith, same, same_there, law, agrees_same same law.agrees)

-- what a part takes is a front of the text
pub law_takes :
    {s : Setting} {A : Type 0} {move : A → A} {read other : Reader A} {part : Part A}
    → Law s move read other part → (a : At) (x : A) (q : At) → part.is a x q → Takes a q
law_takes law a x q is = grind (arith, value_local)

module _ (s : Setting) where
  pub law_ends :
      {A : Type 0} (move : A → A) (x : A) → Law s move (give x) (give (move x)) (ends x)
  law_ends move x = grind (arith, agrees_ends x)

  -- a letter of any table
  module _ {A : Type 0} (table : ℕ → Option A) (absent : A) where
    local_letter :
        (a rest : At) → Takes a rest → (o : Option A)
        → IsLocal s stays a (read_or_stay absent a rest o)
        (read_or_stay absent (elsewhere s a) (elsewhere s rest) o)
    local_letter a rest t o = grind (arith, local_stay, stays)

    pub law_letter :
        Law s stays (read_letter table absent) (read_letter table absent) (letter table absent)
    law_letter =
        law_of (agrees_letter table absent) (λ a.
        local_first s stays a.place a.text (letter_first table absent a)
        (letter_first table absent (elsewhere s a)) (local_stay s stays a absent)
        (λ c rest t. local_letter a rest t (table c)))

  pub law_flag : (c : ℕ) → Law s stays (read_flag c) (read_flag c) (flag c)
  law_flag c =
      law_of (agrees_flag c) (λ a.
      local_strip s stays c a.place a.text (was_there a) (was_there (elsewhere s a))
      (local_stay s stays a false) (λ rest e t. (t, λ settled. refl)))
