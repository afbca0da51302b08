-- What the letters of templates and a table are. Templates, table, lines and fields are bytes, and
-- letters are characters.
use Rattle.std.specs.Prelude.{◌≡◌, ◌≢◌, ◌⊎◌, ⊤, ℕ, Bool, false, true, List, [], ◌++◌, map, None}
use Rattle.std.specs.Prelude.{Some, Option, Result, Ok, Err, length, nat_lt, if◌then◌else◌}
use Rattle.std.specs.{Borrow.Bor, Str.chars}
use Rattle.interpolator.specs.Faults.{Fault as Wrong, answer_of, fault as as_answer}
use Rattle.interpolator.specs.Prepared.Rows.{PreparedFormat, found_by_row, pair_names, row_at}
use Rattle.interpolator.specs.Meaning.{Environments.environment, Meanings.Meaning, Meanings.means}
use Rattle.interpolator.specs.{Places.outermost, Places.text_of, Contexts.found_by_pairs}
use Rattle.interpolator.specs.{Slots.slots_of}
use Rattle.interpolator.specs.{Template.NodeSamples.faults_over, Views.Shown, Views.shown_as_value}
use Rattle.interpolator_escapes.specs.{Fields.record_shows, Formats.escaped_shows, Placing.EndsFor}
use Rattle.interpolator_escapes.specs.{Placing.FailsFor, RecordFormats.after_record}
use Rattle.interpolator_escapes.specs.{RecordFormats.record_answer, declared.ending.Ending.Ending}
use Rattle.interpolator_escapes.specs.declared.ending.Ending.TheVariants as endings
use Rattle.interpolator_escapes.specs.declared.{escape.Escape.Escape, escape.Escape.TheVariants.Csv}
use Rattle.interpolator_escapes.specs.declared.misplaced.PlaceError.{PlaceError}
use Rattle.interpolator_escapes.specs.declared.misplaced.PlaceError.TheVariants as places
use Rattle.interpolator.specs.{declared.Error.Error, declared.Formattable.Formattable}
use Rattle.interpolator.specs.{declared.Spec.Spec, declared.Trait.Trait, declared.View.View}
use Rattle.merge.specs.Table.{AreFaultsBy, HasNoHeader, HasTrouble, IsReportedOf, Joins, kinds_of}
use Rattle.merge.specs.Table.{names_of}
use Rattle.merge.specs.Values.{AreShown, as_value, example_slots, is_empty_at}
use Rattle.merge.specs.{Columns.column_named, declared.columns.Kind.Kind}
use Rattle.merge.specs.declared.templates.Fault.{Fault}
use Rattle.records.specs.Tables.{AreEntries, At, Entry, Gives, GivesRecord}
use Rattle.records.specs.{Heads.Starts, declared.separator.Separator.Separator}
use Rattle.merge.specs.declared.templates.Fault.TheVariants as why
use Rattle.merge.specs.declared.templates.Unfit.TheVariants.{Misplaced, EndsInPlace, EndsElsewhere}
use Rattle.merge.specs.{declared.templates.Form.Form, declared.templates.Letters.Letters}
use Rattle.merge.specs.{declared.templates.Templates.Templates, declared.templates.Unfit.Unfit}
use Rattle.merge.specs.declared.templates.Way.{Way}
use Rattle.merge.specs.declared.templates.Way.TheVariants as ways
use Rattle.merge.specs.{declared.table.LineFault.LineFault, declared.table.Trouble.Trouble}

-- ---- columns and fields as values

-- the values of a row
abbrev pub Row : Type 0
Row = List (Formattable View)

-- the pairs of a sample
abbrev pub Sample : Type 0
Sample = List (Bor (List ℕ) × Formattable View)

-- what a view shows as a value, whatever the trait and the spec
abbrev pub view_shows : View → Trait → Spec → Shown
view_shows view _ _ = shown_as_value view

-- the same in a letter, by how its values are written
abbrev pub letter_shows : Way → View → Trait → Spec → Shown
letter_shows ways.Plain = view_shows
letter_shows (ways.Escaped escape) = escaped_shows escape view_shows
letter_shows ways.Record = record_shows view_shows

-- a sample has these names, and under each an example of its column
pub record HasNames (names : List (List ℕ)) (kinds : List Kind) (sample : Sample) : Type 0 where
  pub same_names : pair_names sample ≡ names
  pub same_values : map (λ pair. slots_of pair.1) sample ≡ map example_slots kinds

-- ---- letters

-- a template that is prepared for some names
abbrev pub format_of : (template : List ℕ) → (names : List (List ℕ)) → PreparedFormat
format_of template names = record { text = template; names = names }

-- the template of a record: the other one, if its field in the column is empty
abbrev pub form_by : Letters → (is_empty : Bool) → Form
form_by letters true = letters.other
form_by letters false = letters.letter

abbrev pub form_in : Letters → (column : Option ℕ) → (fields : List (List ℕ)) → Form
form_in letters None fields = letters.letter
form_in letters (Some column) fields = form_by letters (is_empty_at column fields)

abbrev pub form_for : Letters → (fields : List (List ℕ)) → Form
form_for letters fields = form_in letters letters.column fields

-- what a template means with a row of values, by how they are written
abbrev pub letter_means : Way → PreparedFormat → Row → Meaning
letter_means way format row = means (letter_shows way)
    (environment (found_by_row format.names (row_at row))) (outermost (chars format.text))

-- a text is the letter of some views: what the template means with them, without fault
pub record IsLetterWith (form : Form) (views : List View) (letter : List ℕ) : Type 0 where
  pub row : Row
  pub same_values : map slots_of row ≡ map as_value views
  pub sound : (letter_means form.way form.format row).fault ≡ None
  pub said : letter ≡ text_of (letter_means form.way form.format row).text

-- a text is the letter of the fields of some columns
pub record IsLetterOf (form : Form) (kinds : List Kind) (fields : List (List ℕ))
    (letter : List ℕ) : Type 0 where
  pub views : List View
  pub shown : AreShown kinds fields views
  pub is : IsLetterWith form views letter

-- a text is the letter of a record, with which nothing is wrong
abbrev pub IsLetter : Letters → List Kind → Entry → (letter : List ℕ) → Type 0
IsLetter letters kinds (Ok (line, fields)) letter =
    HasTrouble kinds fields None
    × IsLetterOf (form_for letters fields) kinds fields letter
IsLetter letters kinds (Err fault) letter = ⊥

-- a text is the letters of some records, one after the other
abbrev pub AreLetters : Letters → List Kind → (rows : List Entry) → (text : List ℕ) → Type 0
AreLetters letters kinds rows text = Joins (IsLetter letters kinds) rows text

-- ---- templates

-- the faults of a template with a sample
abbrev pub faults_with : List ℕ → Sample → List Wrong
faults_with template sample =
    faults_over view_shows (found_by_pairs sample) (outermost (chars template))

-- a sample has the names, and the template has no fault with it
pub record IsReady (form : PreparedFormat) (kinds : List Kind) (sample : Sample) : Type 0 where
  pub has : HasNames form.names kinds sample
  pub none : faults_with form.text sample ≡ []

-- so it is with both templates
pub record AreReady (letters : Letters) (kinds : List Kind) (sample : Sample) : Type 0 where
  pub letter : IsReady letters.letter.format kinds sample
  pub other : IsReady letters.other.format kinds sample

-- errors are all faults that a template has with an example of each column, and there are some
pub record HasFaults (form : PreparedFormat) (kinds : List Kind) (errors : List Error) : Type 0
  where
    pub sample : Sample
    pub has : HasNames form.names kinds sample
    pub all : map answer_of errors ≡ map as_answer (faults_with form.text sample)
    pub some : errors ≢ []

-- the column whose empty fields choose the other template, if one is asked for
abbrev pub IsChosen : (names : List (List ℕ)) → Option (Bor (List ℕ)) → Option ℕ → Type 0
IsChosen names None column = column ≡ None
IsChosen names (Some name) column =
    (place : ℕ) × (column_named names name.now ≡ Some place) × (column ≡ Some place)

-- this column is looked up, or there is none of the name
abbrev pub LooksUp : (names : List (List ℕ)) → Option (Bor (List ℕ)) → Result (Option ℕ) Fault
    → Type 0
LooksUp names name (Ok column) = IsChosen names name column
LooksUp names name (Err fault) = (wanted : Bor (List ℕ)) × (name ≡ Some wanted)
    × (column_named names wanted.now ≡ None) × (fault ≡ why.NoColumn)

-- what a check answers of a template that is not fit, for this reason
abbrev pub unfit_answer : Unfit → Result Ending PlaceError
unfit_answer (Misplaced found) = Err (places.Misplaced found)
unfit_answer EndsInPlace = Ok endings.Place
unfit_answer EndsElsewhere = Ok endings.Elsewhere

-- what is answered of a template as a record of CSV
abbrev pub as_record : (template : List ℕ) → Result Ending PlaceError
as_record template = record_answer (after_record (outermost (chars template)))

-- a template is fit for a way of writing: its values stand, and it ends as it began, so that the
-- next letter begins as this one did
abbrev pub IsFit : Way → (template : List ℕ) → Type 0
IsFit ways.Plain template = ⊤
IsFit (ways.Escaped escape) template =
    EndsFor escape (outermost (chars template)) endings.Beginning
IsFit ways.Record template = as_record template ≡ Ok endings.Beginning

-- it is not: this value is the first that does not stand, or it ends elsewhere
abbrev pub IsUnfit : Way → (template : List ℕ) → Unfit → Type 0
IsUnfit ways.Plain template unfit = ⊥
IsUnfit (ways.Escaped escape) template (Misplaced found) =
    FailsFor escape (outermost (chars template)) found
IsUnfit (ways.Escaped escape) template EndsInPlace =
    EndsFor escape (outermost (chars template)) endings.Place
IsUnfit (ways.Escaped escape) template EndsElsewhere =
    EndsFor escape (outermost (chars template)) endings.Elsewhere
IsUnfit ways.Record template unfit = as_record template ≡ unfit_answer unfit

-- the byte at which a template is not fit; its end, if it ends elsewhere
abbrev pub unfit_place : (template : List ℕ) → Unfit → ℕ
unfit_place template (Misplaced found) = found.place
unfit_place template _ = length template

-- of two reasons the one whose place lies further on; at one place, the second
abbrev pub further : (template : List ℕ) → (first second : Unfit) → Unfit
further template first second =
    if nat_lt (unfit_place template second) (unfit_place template first) then first else second

-- how a template of CSV is written: as a record if it is fit for that, or else escaped
abbrev pub IsCsvWay : (template : List ℕ) → Way → Type 0
IsCsvWay template ways.Record = IsFit ways.Record template
IsCsvWay template (ways.Escaped Csv) =
    ((unfit : Unfit) × IsUnfit ways.Record template unfit) × IsFit (ways.Escaped Csv) template
IsCsvWay template _ = ⊥

-- it is fit for neither: of both reasons, the one further on
abbrev pub IsUnfitForCsv : (template : List ℕ) → Unfit → Type 0
IsUnfitForCsv template unfit = (first : Unfit) × (second : Unfit)
    × IsUnfit ways.Record template first × IsUnfit (ways.Escaped Csv) template second
    × (unfit ≡ further template first second)

abbrev pub is_csv : Escape → Bool
is_csv Csv = true
is_csv _ = false

-- how a template is written, if an escape is asked for, which is CSV or another
abbrev pub IsWayBy : (is_csv : Bool) → Escape → (template : List ℕ) → Way → Type 0
IsWayBy true escape template way = IsCsvWay template way
IsWayBy false escape template way = (way ≡ ways.Escaped escape) × IsFit way template

abbrev pub IsUnfitBy : (is_csv : Bool) → Escape → (template : List ℕ) → Unfit → Type 0
IsUnfitBy true escape template unfit = IsUnfitForCsv template unfit
IsUnfitBy false escape template unfit = IsUnfit (ways.Escaped escape) template unfit

-- how a template is written, which is fit for that
abbrev pub IsWay : Option Escape → (template : List ℕ) → Way → Type 0
IsWay None template way = way ≡ ways.Plain
IsWay (Some escape) template way = IsWayBy (is_csv escape) escape template way

-- why it is not fit for the escape that is asked for
abbrev pub IsMisplaced : Option Escape → (template : List ℕ) → Unfit → Type 0
IsMisplaced None template unfit = ⊥
IsMisplaced (Some escape) template unfit = IsUnfitBy (is_csv escape) escape template unfit

-- both templates are written so, or one is not fit, or memory ran out
abbrev pub ArePlaced : Templates → Result (Way × Way) Fault → Type 0
ArePlaced templates (Ok both) = IsWay templates.escape templates.letter.now both.0
    × IsWay templates.escape templates.other.now both.1
ArePlaced templates (Err (why.Unfit unfit)) =
    IsMisplaced templates.escape templates.letter.now unfit
ArePlaced templates (Err (why.OtherUnfit unfit)) =
    IsMisplaced templates.escape templates.other.now unfit
ArePlaced templates (Err why.Stopped) = ⊤
ArePlaced templates (Err _) = ⊥

-- templates are prepared for columns of these names
pub record ArePrepared (templates : Templates) (names : List (List ℕ)) (letters : Letters) : Type 0
  where
    pub same_letter : letters.letter.format ≡ format_of templates.letter.now names
    pub same_other : letters.other.format ≡ format_of templates.other.now names
    pub chosen : IsChosen names templates.column letters.column
    pub letter_way : IsWay templates.escape templates.letter.now letters.letter.way
    pub other_way : IsWay templates.escape templates.other.now letters.other.way

-- why templates are not: no column has the name that is asked for, a template has these faults, it
-- is not fit for the escape, or memory ran out
abbrev pub Spoils : Templates → (names : List (List ℕ)) → List Kind → Fault → Type 0
Spoils templates names kinds why.NoColumn = (name : Bor (List ℕ))
    × (templates.column ≡ Some name) × (column_named names name.now ≡ None)
Spoils templates names kinds (why.Template errors) =
    HasFaults (format_of templates.letter.now names) kinds errors.items
Spoils templates names kinds (why.Other errors) =
    HasFaults (format_of templates.other.now names) kinds errors.items
Spoils templates names kinds (why.Unfit unfit) =
    IsMisplaced templates.escape templates.letter.now unfit
Spoils templates names kinds (why.OtherUnfit unfit) =
    IsMisplaced templates.escape templates.other.now unfit
Spoils templates names kinds (why.Table reported) = ⊥
Spoils templates names kinds why.Stopped = ⊤

-- templates were prepared, and have no fault with the sample; or they were not
abbrev pub Prepares : Templates → (names : List (List ℕ)) → List Kind → Sample
    → Result Letters Fault → Type 0
Prepares templates names kinds sample (Ok letters) =
    ArePrepared templates names letters × AreReady letters kinds sample
Prepares templates names kinds sample (Err fault) = Spoils templates names kinds fault

-- ---- what is written

-- a letter is appended to a text
abbrev pub PutsLetter : Form → (views : List View) → (old new : List ℕ) → Type 0
PutsLetter form views old new =
    (letter : List ℕ) × IsLetterWith form views letter × (new ≡ old ++ letter)

-- the letter of fields is appended to a text, if it is asked for and nothing is wrong with them
abbrev pub PutsIf : Letters → List Kind → (writes : Bool) → (fields : List (List ℕ))
    → (old new : List ℕ) → Option Trouble → Type 0
PutsIf letters kinds writes fields old new (Some trouble) = new ≡ old
PutsIf letters kinds false fields old new None = new ≡ old
PutsIf letters kinds true fields old new None = (letter : List ℕ)
    × IsLetterOf (form_for letters fields) kinds fields letter
    × (new ≡ old ++ letter)

-- what is told of a record is appended to what was found; and, if that is asked for and nothing was
-- found, its letter to a text
pub record WritesEntry (letters : Letters) (kinds : List Kind) (writes : Bool) (entry : Entry)
    (old new : List LineFault) (text new_text : List ℕ) : Type 0 where
  pub reported : List LineFault
  pub is : IsReportedOf kinds entry reported
  pub found : new ≡ old ++ reported
  pub puts : writes ≡ true → new ≡ []
      → (letter : List ℕ) × IsLetter letters kinds entry letter × (new_text ≡ text ++ letter)
  pub keeps : writes ≡ false → new_text ≡ text

-- a table goes on with an entry, which is written; or it is at its end
abbrev pub WritesNext : Separator → Letters → List Kind → (writes more : Bool) → (from to : At)
    → (old new : List LineFault) → (text new_text : List ℕ) → Type 0
WritesNext separator letters kinds writes true from to old new text new_text =
    (entry : Entry) × Gives separator entry from to
    × WritesEntry letters kinds writes entry old new text new_text
WritesNext separator letters kinds writes false from to old new text new_text =
    (from.text ≡ []) × (new ≡ old) × (new_text ≡ text)

-- the faults of names and rows were found; if letters are asked for and there are no faults, the
-- letters of the rows were appended to a text
pub record WritesRows (letters : Letters) (names : List (List ℕ)) (kinds : List Kind)
    (writes : Bool) (rows : List Entry) (old new : List ℕ) (found : List LineFault) : Type 0 where
  pub faults : AreFaultsBy names kinds rows found
  pub puts : writes ≡ true → found ≡ []
      → (text : List ℕ) × AreLetters letters kinds rows text × (new ≡ old ++ text)
  pub keeps : writes ≡ false → new ≡ old

-- the letters of all rows from a place on were appended to a text, and nothing is wrong with them
-- or with the names; or these are the faults of both, and then the text stays, unless a part of the
-- letters is wanted
abbrev pub MergesFrom : Separator → Letters → (names : List (List ℕ)) → List Kind
    → (partial : Bool) → (from : At) → (old new : List ℕ) → Result (Unit {0}) Fault → Type 0
MergesFrom separator letters names kinds partial from old new (Ok _) = (rows : List Entry)
    × AreEntries separator rows from × AreFaultsBy names kinds rows []
    × (text : List ℕ) × AreLetters letters kinds rows text × (new ≡ old ++ text)
MergesFrom separator letters names kinds partial from old new (Err (why.Table reported)) =
    (rows : List Entry) × AreEntries separator rows from × AreFaultsBy names kinds rows reported.items
    × (reported.items ≢ []) × (partial ≡ false → new ≡ old)
MergesFrom separator letters names kinds partial from old new (Err why.Stopped) = ⊤
MergesFrom separator letters names kinds partial from old new (Err _) = ⊥

-- so it is with templates and a header, if they can be prepared for its columns; or they can not,
-- and the text stays
abbrev pub MergesAfter : Separator → Templates → (header : List (List ℕ)) → (partial : Bool)
    → (after : At) → (old new : List ℕ) → Result (Unit {0}) Fault → Type 0
MergesAfter separator templates header partial after old new result =
    ((letters : Letters) × (sample : Sample) × ArePrepared templates (names_of header) letters
    × AreReady letters (kinds_of header) sample
    × MergesFrom separator letters (names_of header) (kinds_of header) partial after old new result)
    ⊎ ((fault : Fault) × (result ≡ Err fault)
    × Spoils templates (names_of header) (kinds_of header) fault × (new ≡ old))

-- a table has no header, for these faults, or memory ran out
abbrev pub LacksHeader : Separator → (start : At) → Fault → Type 0
LacksHeader separator start (why.Table reported) = HasNoHeader separator start reported.items
LacksHeader separator start why.Stopped = ⊤
LacksHeader separator start _ = ⊥

-- the letters of templates and a table are appended to a text; or the faults of these are told
abbrev pub Merges : Separator → Templates → (table : List ℕ) → (partial : Bool)
    → (old new : List ℕ) → Result (Unit {0}) Fault → Type 0
Merges separator templates table partial old new result = (start : At) × Starts table start
    × (((header : List (List ℕ)) × (after : At) × GivesRecord separator header start after
    × MergesAfter separator templates header partial after old new result)
    ⊎ ((fault : Fault) × (result ≡ Err fault) × LacksHeader separator start fault × (new ≡ old)))

-- a fault is that of these lines, or memory ran out
abbrev pub IsOneFault : Fault → List LineFault → Type 0
IsOneFault (why.Table faults) reported = faults.items ≡ reported
IsOneFault why.Stopped reported = ⊤
IsOneFault _ reported = ⊥
