-- What the reader of a field has found.
use Rattle.std.specs.Prelude.{◌≡◌, ⊤, ◌==◌, ℕ, cond, true, List, [], ◌∷◌, ◌++◌, Result, Ok, Err}
use Rattle.std.specs.Borrow.{Bor}
use Rattle.records.specs.Faults.{Breaks, IsBroken}
use Rattle.records.specs.Marks.{NotFirst, blank, carriage_return, quote}
use Rattle.records.specs.Spellings.{AreBlanks, IsSpelled, doubled, ends_field, stops, text_of}
use Rattle.records.specs.declared.fault.Stop.TheVariants.{Broken, NoMemory}
use Rattle.records.specs.{Records.Begins, declared.fault.Problem.Problem}
use Rattle.records.specs.{declared.fault.Problem.TheVariants.LoneReturn, declared.fault.Stop.Stop}
use Rattle.records.specs.{declared.field.Field.Field, declared.separator.Separator.Separator}

-- a text is empty, or begins with a byte that may not stand in a field without quotes
abbrev pub IsStopped : Separator → List ℕ → Type 0
IsStopped separator [] = ⊤
IsStopped separator (b ∷ bs) = stops separator b ≡ true

-- no quote closes a text
abbrev pub IsOpen : List ℕ → Type 0
IsOpen text = (content : List ℕ) × (text ≡ doubled content)

-- a text is a field with its quotes doubled, a quote that closes it, and a rest
abbrev pub IsInside : (field text rest : List ℕ) → Type 0
IsInside field text rest = (text ≡ doubled field ++ (quote ∷ rest)) × NotFirst quote rest

-- behind its blanks a text does not begin with a quote
abbrev pub IsUnquoted : List ℕ → Type 0
IsUnquoted text = (blanks : List ℕ) × (rest : List ℕ) × AreBlanks blanks
    × (text ≡ blanks ++ rest) × NotFirst blank rest × NotFirst quote rest

-- what is wrong where a field does not end: a carriage return, or else this problem
abbrev pub problem_at : Problem → List ℕ → Problem
problem_at other [] = other
problem_at other (b ∷ bs) = cond (b == carriage_return) LoneReturn other

-- a field begins a text, and may end before the rest
abbrev pub HasField : Separator → (text field rest : List ℕ) → Type 0
HasField separator text field rest = (written : List ℕ) × (text ≡ written ++ rest)
    × IsSpelled separator field written × (ends_field separator rest ≡ true)

-- no field begins a text, or memory ran out
abbrev pub NoField : Separator → (text : List ℕ) → Stop → Type 0
NoField separator text (Broken problem tail) =
    (front : List ℕ) × (text ≡ front ++ tail.now) × IsBroken separator problem front tail.now
NoField separator text NoMemory = ⊤

-- the field at the beginning of a text was read, or there is none
abbrev pub ReadsField : Separator → List ℕ → Result (Field × Bor (List ℕ)) Stop → Type 0
ReadsField separator text (Ok (field, rest)) = HasField separator text (text_of field) rest.now
ReadsField separator text (Err stop) = NoField separator text stop

-- the record at the beginning of a text was read, or there is none
abbrev pub ReadsRecord : Separator → (fields : List (List ℕ)) → (text : List ℕ)
    → Result (Bor (List ℕ)) Stop → Type 0
ReadsRecord separator fields text (Ok rest) = Begins separator fields text rest.now
ReadsRecord separator fields text (Err (Broken problem tail)) =
    Breaks separator problem text tail.now
ReadsRecord separator fields text (Err NoMemory) = ⊤
