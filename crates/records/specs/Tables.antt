-- A table, record by record and fault by fault, with nothing left out.
use Rattle.std.specs.Prelude.{⊤, ◌≡◌, ◌≢◌, ℕ, ◌==◌, Bool, false, true, map, List, [], ◌∷◌, ◌++◌}
use Rattle.std.specs.Prelude.{Option, None, Some, Result, Ok, Err}
use Rattle.std.specs.List.{after_first}
use Rattle.records.specs.declared.{fault.Fault.Fault, fault.Place.Place, fault.Problem.Problem}
use Rattle.records.specs.declared.{fault.Problem.TheVariants.Unclosed, reader.ReadError.ReadError}
use Rattle.records.specs.{Faults.Breaks, Marks.line_feed, Places.place_after, Records.Begins}
use Rattle.records.specs.Spellings.{text_of}
use Rattle.records.specs.declared.reader.ReadError.TheVariants as errors
use Rattle.records.specs.{declared.reader.Reader.Reader, declared.separator.Separator.Separator}
use Rattle.records.specs.declared.table.Record.{Record}

-- ---- what is read

-- the beginning of a line, by its number, and the text from there on
pub record At : Type 0 where
  pub line : ℕ
  pub text : List ℕ

-- where a reader is
abbrev pub at : Reader → At
at reader = record { line = reader.line; text = reader.rest.now }

-- the separator that a reader reads by
abbrev pub separator_of : Reader → Separator
separator_of reader = reader.separator

-- the place where a line begins
abbrev pub line_start : ℕ → Place
line_start line = record { line = line; column = 1 }

-- from one line on, a text goes on behind a front of it, by as many lines as end in that front
pub record Passes (front : List ℕ) (from to : At) : Type 0 where
  pub is : from.text ≡ front ++ to.text
  pub counted : to.line ≡ (place_after (line_start from.line) front).line

-- a record is read: it begins the text, which goes on behind it
pub record GivesRecord (separator : Separator) (fields : List (List ℕ)) (from to : At) : Type 0
  where
    pub some : from.text ≢ []
    pub begins : Begins separator fields from.text to.text
    pub front : List ℕ
    pub passes : Passes front from to

-- where the text goes on after a fault: nowhere after a quote that is never closed, or else with
-- the next line
abbrev pub after_fault : Problem → List ℕ → List ℕ
after_fault Unclosed tail = []
after_fault _ tail = after_first (λ b. b == line_feed) tail

-- a fault is found: no record begins the text, for the problem at this place
pub record GivesFault (separator : Separator) (fault : Fault) (from to : At) : Type 0 where
  pub before : List ℕ
  pub tail : List ℕ
  pub is : from.text ≡ before ++ tail
  pub breaks : Breaks separator fault.problem from.text tail
  pub placed : fault.place ≡ place_after (line_start from.line) before
  pub goes_on : to.text ≡ after_fault fault.problem tail
  pub front : List ℕ
  pub passes : Passes front from to

-- what a reader answers, from one place to the next, and the fields that it leaves
abbrev pub ReadsNext : Separator → (from to : At) → (fields : List (List ℕ))
    → Result (Option ℕ) ReadError → Type 0
ReadsNext separator from to fields (Ok None) = (from.text ≡ []) × (to ≡ from) × (fields ≡ [])
ReadsNext separator from to fields (Ok (Some line)) =
    (line ≡ from.line) × GivesRecord separator fields from to
ReadsNext separator from to fields (Err (errors.Fault fault)) =
    GivesFault separator fault from to × (fields ≡ [])
ReadsNext separator from to fields (Err errors.NoMemory) = (to ≡ from) × (fields ≡ [])

-- a record was read, or a fault was found
abbrev pub IsPast : Result (Option ℕ) ReadError → Type 0
IsPast (Ok (Some line)) = ⊤
IsPast (Ok None) = ⊥
IsPast (Err (errors.Fault fault)) = ⊤
IsPast (Err errors.NoMemory) = ⊥

-- ---- a whole table

-- a record by its line, or a fault
abbrev pub Entry : Type 0
Entry = Result (ℕ × List (List ℕ)) Fault

-- an entry is read from a text, which goes on behind it
abbrev pub Gives : Separator → Entry → (from to : At) → Type 0
Gives separator (Ok (line, fields)) from to =
    (line ≡ from.line) × GivesRecord separator fields from to
Gives separator (Err fault) from to = GivesFault separator fault from to

-- a text is these entries, one after the other
abbrev pub AreEntries : Separator → List Entry → At → Type 0
AreEntries separator [] from = from.text ≡ []
AreEntries separator (entry ∷ entries) from =
    (to : At) × Gives separator entry from to × AreEntries separator entries to

-- ---- what is kept of a table

-- a record that is kept: its line, and the texts of its fields
abbrev pub as_read : Record → ℕ × List (List ℕ)
as_read kept = (kept.line, map text_of kept.fields.items)

-- the records among entries
abbrev pub records_in : List Entry → List (ℕ × List (List ℕ))
records_in [] = []
records_in (Ok read ∷ entries) = read ∷ records_in entries
records_in (Err fault ∷ entries) = records_in entries

-- the faults among entries
abbrev pub faults_in : List Entry → List Fault
faults_in [] = []
faults_in (Ok read ∷ entries) = faults_in entries
faults_in (Err fault ∷ entries) = fault ∷ faults_in entries

-- records and faults are those of some entries, all of them and in order
pub record AreOf (entries : List Entry) (kept : List Record) (faults : List Fault) : Type 0 where
  pub same_records : map as_read kept ≡ records_in entries
  pub same_faults : faults ≡ faults_in entries

-- records and faults are all those of a text from here on
abbrev pub Holds : Separator → At → (kept : List Record) → (faults : List Fault) → Type 0
Holds separator from kept faults =
    (entries : List Entry) × AreEntries separator entries from × AreOf entries kept faults

-- one more entry is read, and appended to what is kept; or the text is at its end
abbrev pub Adds : Separator → (more : Bool) → (from to : At) → (old new : List Record)
    → (old_faults new_faults : List Fault) → Type 0
Adds separator true from to old new old_faults new_faults = (entry : Entry)
    × Gives separator entry from to × ((entries : List Entry) → AreOf entries old old_faults
    → AreOf (entries ++ (entry ∷ [])) new new_faults)
Adds separator false from to old new old_faults new_faults =
    (from.text ≡ []) × (new ≡ old) × (new_faults ≡ old_faults)
