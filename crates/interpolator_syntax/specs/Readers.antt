-- Readers of a text, one after the other: each returns what it read, or why it could not.
use Rattle.std.specs.Prelude.{ℕ, Bool, true, false, List, [], ◌∷◌, Option, None, Some, Result, Ok}
use Rattle.std.specs.Prelude.{Err}
use Rattle.interpolator_syntax.specs.Places.{At, first, after, strip}
use Rattle.interpolator_syntax.specs.{Classes.front_of, Classes.in_class, Faults.Fault}
use Rattle.interpolator_syntax.specs.{Faults.parse, Faults.unclosed, declared.class.Class.Class}

-- reads the front of a text: its meaning and the text after it, or a fault
abbrev pub Reader : Type 0 → Type 0
Reader A = At → Result (A × At) Fault

-- goes on after what was read, and stops at a fault
abbrev pub on : {A B : Type 0} → Result (A × At) Fault → (A → Reader B) → Result (B × At) Fault
on (Ok w) next = next w.0 w.1
on (Err f) next = Err f

infixl 10 ◌>>=◌
-- one reader, and after it the next
abbrev pub ◌>>=◌ : {A B : Type 0} → Reader A → (A → Reader B) → Reader B
read >>= next = λ a. on (read a) next

-- reads nothing, and returns x
abbrev pub give : {A : Type 0} → A → Reader A
give x = λ a. Ok (x, a)

-- reads nothing, and returns the place
abbrev pub here : Reader ℕ
here = λ a. Ok (a.place, a)

-- the longest front of a class
abbrev pub span : Class → Reader (List ℕ)
span class = λ a. Ok (front_of (in_class class) a.text, after (in_class class) a)

-- by the meaning of the first character: it is read if it has one
abbrev pub read_or_stay : {A : Type 0} → A → (a rest : At) → Option A → Result (A × At) Fault
read_or_stay absent a rest None = Ok (absent, a)
read_or_stay absent a rest (Some x) = Ok (x, rest)

-- the first character, if there is one, is read if it has a meaning
abbrev pub letter_first : {A : Type 0} → (ℕ → Option A) → A → At → Option (ℕ × At)
    → Result (A × At) Fault
letter_first table absent a None = Ok (absent, a)
letter_first table absent a (Some w) = read_or_stay absent a w.1 (table w.0)

-- a letter of a table, which is read; or `absent`, if there is none
abbrev pub letter : {A : Type 0} → (ℕ → Option A) → A → Reader A
letter table absent = λ a. letter_first table absent a (first a)

-- whether a character was there, by the text after it
abbrev pub was_there : At → Option At → Result (Bool × At) Fault
was_there a None = Ok (false, a)
was_there a (Some rest) = Ok (true, rest)

-- whether a character is here; if so, it is read
abbrev pub flag : ℕ → Reader Bool
flag c = λ a. was_there a (strip c a)

-- a run, if the text goes on after it
abbrev pub run_before : (start : ℕ) → List ℕ → (rest : At) → List ℕ → Result (List ℕ × At) Fault
run_before start cs rest [] = Err (parse (unclosed start))
run_before start cs rest (d ∷ ds) = Ok (cs, rest)

-- the longest run of characters that pass, in the argument that begins at `start`; a text that ends
-- with it is a fault
abbrev pub run : (ℕ → Bool) → (start : ℕ) → Reader (List ℕ)
run passes start =
    λ a. run_before start (front_of passes a.text) (after passes a) (after passes a).text
