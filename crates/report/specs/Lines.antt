-- What the lines of records are, by a format whose names are those of columns. Formats, fields and
-- entries are bytes, and lines are characters.
use Rattle.std.specs.Prelude.{◌≡◌, ◌≢◌, ⊤, ℕ, Bool, true, List, [], ◌∷◌, ◌++◌, map, None, Option}
use Rattle.std.specs.Prelude.{Some, ◌-◌, cond, eqb, if◌then◌else◌, length, slice_get, take}
use Rattle.std.specs.Str.{chars, encode_utf8_all, trim}
use Rattle.std.specs.{List.ends_with, Borrow.Bor, Char.is_control, Option.option_map}
use Rattle.interpolator.specs.Faults.{Fault, answer_of, fault as as_answer}
use Rattle.interpolator.specs.Prepared.Rows.{PreparedFormat, found_by_row, pair_names, row_at}
use Rattle.interpolator.specs.Slots.{Slots, empty_slots, slots_of, with_debug_display}
use Rattle.interpolator.specs.Meaning.{Environments.environment, Meanings.Meaning, Meanings.means}
use Rattle.interpolator.specs.declared.{Error.Error, Formattable.Formattable, Spec.Spec}
use Rattle.interpolator.specs.declared.{Trait.Trait, View.View}
use Rattle.interpolator.specs.{Places.outermost, Places.text_of, Contexts.found_by_pairs}
use Rattle.interpolator.specs.{Template.NodeSamples.faults_over, Views.Shown, Views.shown_as_value}
use Rattle.interpolator.specs.declared.View.TheVariants as forms
use Rattle.records.specs.{Spellings.text_of as field_text, declared.table.Record.Record}
use Rattle.report.specs.{Totals.IsCell, declared.lines.Named.Named, declared.totals.Cell.Cell}
use Rattle.report.specs.declared.totals.Cell.TheVariants.{Number}

-- ---- columns and entries

-- the names of columns
abbrev pub names_in : List Named → List (List ℕ)
names_in columns = map (λ column. column.name.now) columns

-- whether their entries are shown as numbers
abbrev pub kinds_in : List Named → List Bool
kinds_in columns = map (λ column. column.is_numeric) columns

-- a text that may be missing, and then is empty
abbrev pub or_empty : Option (List ℕ) → List ℕ
or_empty (Some text) = text
or_empty None = []

-- the field at an index, from 0, without the white space around it; empty if there is none
abbrev pub trimmed_at : (fields : List (List ℕ)) → ℕ → List ℕ
trimmed_at fields index = or_empty (option_map trim (slice_get fields index))

-- a character as it is shown: a control as a blank
abbrev pub shown_character : ℕ → ℕ
shown_character c = cond (is_control c) 32 c

-- a text with a blank for each control
abbrev pub without_controls : List ℕ → List ℕ
without_controls text = encode_utf8_all (map shown_character (chars text))

-- the entry of a record in a column: its field, without the white space around it and without
-- controls
abbrev pub entry_of : Record → Named → List ℕ
entry_of row column =
    without_controls (trimmed_at (map field_text row.fields.items) column.index)

-- the entries of a record in some columns
abbrev pub entries_of : List Named → Record → List (List ℕ)
entries_of columns row = map (entry_of row) columns

-- a view is that of a text
abbrev pub IsText : List ℕ → View → Type 0
IsText entry view = (text : Bor (List ℕ)) × (view ≡ forms.Text text) × (text.now ≡ entry)

-- a view is that of an entry, by what it is: a number as a decimal, where it is to be shown so
abbrev pub IsShownAs : (is_numeric : Bool) → (entry : List ℕ) → Cell → View → Type 0
IsShownAs true entry (Number number) view = view ≡ forms.Decimal number.units number.scale
IsShownAs _ entry _ view = IsText entry view

-- a view is that of an entry in a column of numbers, or in another
abbrev pub IsShown : (is_numeric : Bool) → (entry : List ℕ) → View → Type 0
IsShown is_numeric entry view =
    (cell : Cell) × IsCell entry cell × IsShownAs is_numeric entry cell view

-- views are those of the entries of columns
abbrev pub AreShown : (kinds : List Bool) → (entries : List (List ℕ)) → List View → Type 0
AreShown [] [] [] = ⊤
AreShown (kind ∷ kinds) (entry ∷ entries) (view ∷ views) =
    IsShown kind entry view × AreShown kinds entries views
AreShown _ _ _ = ⊥

-- ---- formats

-- the values of a row
abbrev pub Row : Type 0
Row = List (Formattable View)

-- the pairs of a sample
abbrev pub Sample : Type 0
Sample = List (Bor (List ℕ) × Formattable View)

-- a view as a value: it can be displayed, also under `?`
abbrev pub as_value : View → Slots View
as_value view = with_debug_display empty_slots view

-- what a view shows as a value, whatever the trait and the spec
abbrev pub view_shows : View → Trait → Spec → Shown
view_shows view _ _ = shown_as_value view

-- a format that is prepared for some names
abbrev pub format_of : (text : List ℕ) → (names : List (List ℕ)) → PreparedFormat
format_of text names = record { text = text; names = names }

-- an example of what an entry is shown as, which is a text or a number: the character `a`
abbrev pub example : Slots View
example = as_value (forms.Character 97)

-- a sample has these names, and under each the example
pub record HasNames (names : List (List ℕ)) (sample : Sample) : Type 0 where
  pub same_names : pair_names sample ≡ names
  pub same_values : map (λ pair. slots_of pair.1) sample ≡ map (λ _. example) names

-- the faults of a format with a sample
abbrev pub faults_with : (text : List ℕ) → Sample → List Fault
faults_with text sample = faults_over view_shows (found_by_pairs sample) (outermost (chars text))

-- a sample has the names of a format, which has no fault with it
pub record IsReady (format : PreparedFormat) (sample : Sample) : Type 0 where
  pub has : HasNames format.names sample
  pub none : faults_with format.text sample ≡ []

-- errors are all faults that a format has with the example under each name, and there are some
pub record HasFaults (format : PreparedFormat) (errors : List Error) : Type 0 where
  pub sample : Sample
  pub has : HasNames format.names sample
  pub all : map answer_of errors ≡ map as_answer (faults_with format.text sample)
  pub some : errors ≢ []

-- a text without an end, if it ends so
abbrev pub without : (end text : List ℕ) → Option (List ℕ)
without end text =
    if ends_with eqb text end then Some (take (length text - length end) text) else None

-- a text and its line end, by what is before a carriage return and a newline, and before a newline
abbrev pub parted_by : List ℕ → (before_both before_one : Option (List ℕ)) → List ℕ × List ℕ
parted_by text (Some front) before_one = (front, 13 ∷ 10 ∷ [])
parted_by text None (Some front) = (front, 10 ∷ [])
parted_by text None None = (text, 10 ∷ [])

-- the text of a format's file before the line end at its end, and that line end, which is that of
-- each line; a newline, if there is none
abbrev pub parted : List ℕ → List ℕ × List ℕ
parted text = parted_by text (without (13 ∷ 10 ∷ []) text) (without (10 ∷ []) text)

-- ---- lines

-- what a format means with a row of values
abbrev pub line_means : PreparedFormat → Row → Meaning
line_means format row = means view_shows (environment (found_by_row format.names (row_at row)))
    (outermost (chars format.text))

-- a text is the line of some views: what the format means with them, without fault
pub record IsLineWith (format : PreparedFormat) (views : List View) (line : List ℕ) : Type 0 where
  pub row : Row
  pub same_values : map slots_of row ≡ map as_value views
  pub sound : (line_means format row).fault ≡ None
  pub said : line ≡ text_of (line_means format row).text

-- the line of some views is appended to a text
abbrev pub PutsViews : PreparedFormat → List View → (old new : List ℕ) → Type 0
PutsViews format views old new =
    (line : List ℕ) × IsLineWith format views line × (new ≡ old ++ line)

-- a text is the line of a record
pub record IsLine (format : PreparedFormat) (columns : List Named) (row : Record)
    (line : List ℕ) : Type 0 where
  pub views : List View
  pub shown : AreShown (kinds_in columns) (entries_of columns row) views
  pub is : IsLineWith format views line

-- the line of a record is appended to a text
abbrev pub PutsLine : PreparedFormat → List Named → Record → (old new : List ℕ) → Type 0
PutsLine format columns row old new =
    (line : List ℕ) × IsLine format columns row line × (new ≡ old ++ line)

-- a text is the lines of records, each with an end
abbrev pub AreLines : PreparedFormat → (end : List ℕ) → List Named → List Record → (text : List ℕ)
    → Type 0
AreLines format end columns [] text = text ≡ []
AreLines format end columns (first ∷ records) text = (line : List ℕ) × (rest : List ℕ)
    × IsLine format columns first line × AreLines format end columns records rest
    × (text ≡ line ++ (end ++ rest))

-- the lines of records are appended to a text
abbrev pub PutsLines : PreparedFormat → (end : List ℕ) → List Named → List Record
    → (old new : List ℕ) → Type 0
PutsLines format end columns records old new =
    (text : List ℕ) × AreLines format end columns records text × (new ≡ old ++ text)
