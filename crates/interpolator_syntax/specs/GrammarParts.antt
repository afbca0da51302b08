-- Parts of a text as relations: what is at a place, or why it is not there. A part computes
-- nothing; parts come one after the other.
use Rattle.std.specs.Prelude.{◌≡◌, ◌≢◌, ◌⊎◌, ℕ, ◌+◌, Bool, true, false, IsTrue, IsFalse, List, []}
use Rattle.std.specs.Prelude.{◌∷◌, ◌++◌, Option, Some, None}
use Rattle.interpolator_syntax.specs.Faults.{Fault, ParseFault, parse, unclosed}
use Rattle.interpolator_syntax.specs.declared.{error.NumberError.NumberError, class.Class.Class}
use Rattle.interpolator_syntax.specs.declared.class.Class.TheVariants.{Number}
use Rattle.interpolator_syntax.specs.{Places.At, Places.size, Classes.in_class, Grammar.NotFirst}
use Rattle.interpolator_syntax.specs.{Grammar.IsLongest, NumberGrammar.Spelling}

-- `is a x q`: x is at a, and after it the text at q; `is_not a f`: none is at a, and f is the fault
pub record Part (A : Type 0) : Type 1 where
  pub is : At → A → At → Type 0
  pub is_not : At → Fault → Type 0

infixl 10 ◌>>=◌
-- a part and, after it, the next; the fault is that of the first part that is not there
abbrev pub ◌>>=◌ : {A B : Type 0} → Part A → (A → Part B) → Part B
◌>>=◌ {A = A} part next = record {
  is = λ a y q. (x : A) × (b : At) × part.is a x b × (next x).is b y q;
  is_not =
      λ a f. part.is_not a f ⊎ ((x : A) × (b : At) × part.is a x b × (next x).is_not b f);
}

-- no text at all, with x as its meaning
abbrev pub ends : {A : Type 0} → A → Part A
ends x = record { is = λ a y q. (y ≡ x) × (q ≡ a); is_not = λ a f. ⊥ }

-- a part that depends on its own place
abbrev pub at_place : {A : Type 0} → (ℕ → Part A) → Part A
at_place part =
    record { is = λ a. (part a.place).is a; is_not = λ a. (part a.place).is_not a }

-- the text begins with the character c
abbrev pub IsFirst : (c : ℕ) → List ℕ → Type 0
IsFirst c text = (more : List ℕ) × (text ≡ c ∷ more)

-- the characters are at a, and after them the text at q
pub record Lies (a : At) (cs : List ℕ) (q : At) : Type 0 where
  pub split : a.text ≡ cs ++ q.text
  pub place : q.place ≡ a.place + size cs

-- no letter of the table comes first
abbrev pub NoLetter : {A : Type 0} → (ℕ → Option A) → List ℕ → Type 0
NoLetter table text = (c : ℕ) → IsFirst c text → table c ≡ None

-- a letter of the table is there, and means x; or none is, and x is absent
abbrev pub letter : {A : Type 0} → (ℕ → Option A) → (absent : A) → Part A
letter table absent = record {
  is =
      λ a x q. ((c : ℕ) × (table c ≡ Some x) × Lies a (c ∷ []) q)
      ⊎ (NoLetter table a.text × (x ≡ absent) × (q ≡ a));
  is_not = λ a f. ⊥;
}

-- whether the character c is there
abbrev pub flag : ℕ → Part Bool
flag c = record {
  is = λ a x q. (Lies a (c ∷ []) q × (x ≡ true)) ⊎ (NotFirst c a.text × (x ≡ false) × (q ≡ a));
  is_not = λ a f. ⊥;
}

-- a character that passes comes first
abbrev pub FirstPasses : (ℕ → Bool) → List ℕ → Type 0
FirstPasses passes text = (c : ℕ) × IsFirst c text × IsTrue (passes c)

-- no character that passes comes first
abbrev pub NonePasses : (ℕ → Bool) → List ℕ → Type 0
NonePasses passes text = (c : ℕ) → IsFirst c text → IsFalse (passes c)

-- a part that is there exactly when a character that passes comes first
abbrev pub where_first : {A : Type 0} → (ℕ → Bool) → Part (Option A) → Part (Option A)
where_first passes part = record {
  is =
      λ a x q. (FirstPasses passes a.text × part.is a x q)
      ⊎ (NonePasses passes a.text × (x ≡ None) × (q ≡ a));
  is_not = λ a f. FirstPasses passes a.text × part.is_not a f;
}

-- a part that is there exactly after the character c
abbrev pub where_after : {A : Type 0} → ℕ → Part (Option A) → Part (Option A)
where_after c part = record {
  is =
      λ a x q. ((b : At) × Lies a (c ∷ []) b × part.is b x q)
      ⊎ (NotFirst c a.text × (x ≡ None) × (q ≡ a));
  is_not = λ a f. (b : At) × Lies a (c ∷ []) b × part.is_not b f;
}

-- the longest run of a class is at a, and after it the text at q
pub record IsRun (class : Class) (a : At) (cs : List ℕ) (q : At) : Type 0 where
  pub longest : IsLongest (in_class class) a.text cs q.text
  pub place : q.place ≡ a.place + size cs

-- the longest run of a class, which does not touch the end of the text
abbrev pub run : Class → (start : ℕ) → Part (List ℕ)
run class start = record {
  is = λ a cs q. IsRun class a cs q × (q.text ≢ []);
  is_not =
      λ a f. (cs : List ℕ) × (b : At) × IsRun class a cs b × (b.text ≡ [])
      × (f ≡ parse (unclosed start));
}

-- the run that was at p spells a number
abbrev pub spelling_of : {A : Type 0} → Spelling A → (NumberError → ℕ → ParseFault) → (p : ℕ)
    → (cs : List ℕ) → Part (Option A)
spelling_of {A = A} spelling wrong p cs = record {
  is = λ a x q. (n : A) × spelling.spells cs n × (x ≡ Some n) × (q ≡ a);
  is_not =
      λ a f. (kind : NumberError) × spelling.spells_none cs kind × (f ≡ parse (wrong kind p));
}

-- a number: a run of digits and `-` that spells one
abbrev pub number : {A : Type 0} → Spelling A → (NumberError → ℕ → ParseFault) → (start : ℕ)
    → Part (Option A)
number spelling wrong start =
    at_place (λ p.
    do
      cs ← run Number start
      spelling_of spelling wrong p cs)
