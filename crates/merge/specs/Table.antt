-- The header of a table, and what is wrong with its records.
use Rattle.std.specs.Prelude.{◌≡◌, ◌⊎◌, ◌+◌, ◌==◌, ℕ, Bool, cond, List, [], ◌∷◌, ◌++◌, map, length}
use Rattle.std.specs.Prelude.{Option, None, Some, Ok, Err}
use Rattle.std.specs.{List.list_any, Option.option_map, Str.bytes_eq}
use Rattle.merge.specs.{Columns.column_of, Values.IsMisfit, declared.columns.Kind.Kind}
use Rattle.merge.specs.{declared.table.LineFault.LineFault, declared.table.Trouble.Trouble}
use Rattle.merge.specs.declared.table.Trouble.TheVariants as troubles
use Rattle.records.specs.Tables.{At, Entry, GivesFault}
use Rattle.records.specs.{declared.fault.Fault.Fault, declared.separator.Separator.Separator}

-- ---- the header

-- the columns, which the fields of the header name
abbrev pub columns_of : (header : List (List ℕ)) → List (List ℕ × Kind)
columns_of header = map column_of header

-- their names, and what the fields under them are
abbrev pub names_of : (header : List (List ℕ)) → List (List ℕ)
names_of header = map (λ column. column.0) (columns_of header)

abbrev pub kinds_of : (header : List (List ℕ)) → List Kind
kinds_of header = map (λ column. column.1) (columns_of header)

-- ---- a record

-- there are not as many fields as names
abbrev pub count_trouble : (count names : ℕ) → Option Trouble
count_trouble count names = cond (count == names) None (Some (troubles.Fields count))

-- what is wrong with the number of fields, or else with the fields: the first that is no number or
-- float where one is wanted
abbrev pub IsTrouble : List Kind → (fields : List (List ℕ)) → (shape found : Option Trouble)
    → Type 0
IsTrouble kinds fields (Some trouble) found = found ≡ Some trouble
IsTrouble kinds fields None found = (misfit : Option ℕ) × IsMisfit 1 kinds fields misfit
    × (found ≡ option_map troubles.NotNumber misfit)

-- what is wrong with a record of some columns
abbrev pub HasTrouble : List Kind → (fields : List (List ℕ)) → Option Trouble → Type 0
HasTrouble kinds fields found =
    IsTrouble kinds fields (count_trouble (length fields) (length kinds)) found

-- ---- what is told

-- a line with what is wrong with it
abbrev pub with_line : ℕ → Option Trouble → List LineFault
with_line number None = []
with_line number (Some trouble) = record { line = number; trouble = trouble } ∷ []

-- a fault by which the table goes on with no record
abbrev pub broken : Fault → List LineFault
broken fault = with_line fault.place.line (Some (troubles.Broken fault))

-- a whole is parts, one after the other: one for each record or fault
abbrev pub Joins : {A : Type 0} → (Part : Entry → List A → Type 0) → (rows : List Entry)
    → (whole : List A) → Type 0
Joins Part [] whole = whole ≡ []
Joins {A} Part (row ∷ more) whole = (part : List A) × (rest : List A)
    × Part row part × Joins Part more rest × (whole ≡ part ++ rest)

-- what is told of a record, or of a fault
abbrev pub IsReportedOf : List Kind → Entry → List LineFault → Type 0
IsReportedOf kinds (Ok (line, fields)) reported =
    (trouble : Option Trouble) × HasTrouble kinds fields trouble × (reported ≡ with_line line trouble)
IsReportedOf kinds (Err fault) reported = reported ≡ broken fault

-- these are the faults of all that comes after the header
abbrev pub AreFaults : List Kind → (rows : List Entry) → List LineFault → Type 0
AreFaults kinds rows reported = Joins (IsReportedOf kinds) rows reported

-- a name is among others
abbrev pub is_among : List (List ℕ) → List ℕ → Bool
is_among names name = list_any (λ other. bytes_eq other name) names

-- what is wrong with a name that comes after others
abbrev pub repeat_trouble : List (List ℕ) → List ℕ → Option Trouble
repeat_trouble before name =
    cond (is_among before name) (Some (troubles.Twice (length before + 1))) None

-- the columns that have the name of an earlier one, which some others come before; the names count
-- as line 1
abbrev pub repeats_after : List (List ℕ) → List (List ℕ) → List LineFault
repeats_after before [] = []
repeats_after before (name ∷ more) =
    with_line 1 (repeat_trouble before name) ++ repeats_after (before ++ (name ∷ [])) more

-- the columns that have the name of an earlier one
abbrev pub repeats : List (List ℕ) → List LineFault
repeats names = repeats_after [] names

-- these are the faults of a table with columns of these names, and these rows
abbrev pub AreFaultsBy : (names : List (List ℕ)) → List Kind → (rows : List Entry)
    → List LineFault → Type 0
AreFaultsBy names kinds rows reported =
    (others : List LineFault) × AreFaults kinds rows others × (reported ≡ repeats names ++ others)

-- a table has no header: it is empty, or goes on with no record
abbrev pub HasNoHeader : Separator → (start : At) → List LineFault → Type 0
HasNoHeader separator start reported = ((start.text ≡ []) × (reported ≡ with_line 1 (Some troubles.Empty)))
    ⊎ ((fault : Fault) × (after : At) × GivesFault separator fault start after
    × (reported ≡ broken fault))
