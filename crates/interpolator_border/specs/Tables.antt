-- A table: a format over each of its rows.
use Rattle.std.specs.Prelude.{◌≡◌, ◌≢◌, ◌<◌, ◌⊎◌, ⊤, ℕ, zero, suc, ◌*◌, List, [], ◌∷◌, ◌++◌, map}
use Rattle.std.specs.Prelude.{length, take, drop, slice_get, None, Some, true, false, option_map}
use Rattle.std.specs.Prelude.{Option, Bool, Result, MatchResult, IsSomeAnd, Ok, Err}
use Rattle.std.specs.Prelude.{encode_utf8_all}
use Rattle.std.specs.{List.list_all, Str.chars, Str.is_utf8, Borrow.Bor, declared.vec.Vec.Vec}
use Rattle.interpolator_render.specs.Writers.{Buffered, byte_count}
use Rattle.interpolator_syntax.specs.Places.{outermost, text_of}
use Rattle.interpolator_syntax.specs.Faults.{Answer, Fault, fault, no_memory, answer_of}
use Rattle.interpolator_syntax.specs.{FaultTexts.answer_text, declared.error.Error.Error}
use Rattle.interpolator_eval.specs.{Contexts.found_by_pairs, Meaning.Environments.environment}
use Rattle.interpolator_eval.specs.{Meaning.Meanings.Meaning, Meaning.Meanings.means, Slots.Slots}
use Rattle.interpolator_eval.specs.{Slots.slots_of, declared.slots.Formattable.Formattable}
use Rattle.interpolator.specs.Prepared.Rows.{PreparedFormat, found_by_row, pair_names}
use Rattle.interpolator.specs.{Template.NodeChecks.first_fault, Template.NodeSamples.faults_over}
use Rattle.interpolator.specs.Template.Collecting.{AnswersFirst}
use Rattle.interpolator_border.specs.Answers.{Reported, ReportedAlone, ReportedLists}
use Rattle.interpolator_border.specs.Answers.{ReportedNoMemory, ReportedNotUtf8}
use Rattle.interpolator_border.specs.Answers.{ReportedTable, fault_answer, text_answer}
use Rattle.interpolator_border.specs.Fields.{all_within, field_shows, field_slots}
use Rattle.interpolator_border.specs.declared.answer.Answer.{Answer as Reported_answer}
use Rattle.interpolator_border.specs.declared.answer.Failure.{Failure}
use Rattle.interpolator_border.specs.declared.answer.Failure.TheVariants as failure
use Rattle.interpolator_border.specs.{declared.field.Field.Field, declared.table.RowFault.RowFault}

-- ---- the columns

-- the names of the columns
abbrev pub column_names : List Field → List (List ℕ)
column_names columns = map (λ column. column.name.now) columns

-- pairs of the columns' names and of what their examples stand for, where a list has no items
pub record Pairs (columns : List Field) (pairs : List (Bor (List ℕ) × Formattable Field)) : Type 0 where
  pub names : pair_names pairs ≡ column_names columns
  pub slots : map (λ pair. slots_of pair.1) pairs ≡ map (field_slots []) columns

-- a name is UTF-8
abbrev pub has_text_name : Field → Bool
has_text_name column = is_utf8 column.name.now

-- the columns have such pairs; or some name is not UTF-8, or memory was wanted
abbrev pub PairsMade : List Field → {Z : Type 0}
    → Result (Vec (Bor (List ℕ) × Formattable Field) Z) Failure → Type 0
PairsMade columns (Ok pairs) = Pairs columns pairs.items
PairsMade columns (Err failure.NotUtf8) = list_all has_text_name columns ≡ false
PairsMade columns (Err (failure.Fault e)) = answer_of e ≡ no_memory
PairsMade columns (Err _) = ⊥

-- of the faults of a format over the columns
pub record ColumnFaults (columns : List Field) (format : List ℕ) (P : List Fault → Type 0) : Type 0 where
  pub pairs : List (Bor (List ℕ) × Formattable Field)
  pub are : Pairs columns pairs
  pub holds : P (faults_over field_shows (found_by_pairs pairs) (outermost (chars format)))

-- the format with the columns' names, if it has no fault over them; or its first, or that memory was
-- wanted, or that it or a name is not UTF-8
abbrev pub Prepares : List Field → List ℕ → Result PreparedFormat Failure → Type 0
Prepares columns format (Ok made) =
    (is_utf8 format ≡ true) × (made ≡ record { text = format; names = column_names columns })
Prepares columns format (Err failure.NotUtf8) =
    (is_utf8 format ≡ false) ⊎ (list_all has_text_name columns ≡ false)
Prepares columns format (Err (failure.Fault e)) =
    (answer_of e ≡ no_memory) ⊎ ((is_utf8 format ≡ true)
    × ColumnFaults columns format (λ fs. AnswersFirst fs (Some (answer_of e))))
Prepares columns format (Err _) = ⊥

-- ---- the rows

-- what a format means over the values of a row, in the order of names
abbrev pub values_mean : List (List ℕ) → List ℕ → (value_at : ℕ → Option (Slots Field)) → Meaning
values_mean names format value_at =
    means field_shows (environment (found_by_row names value_at)) (outermost (chars format))

-- what the cells of a row stand for at each position, where a list has no items
abbrev pub cell_at : List Field → ℕ → Option (Slots Field)
cell_at cells k = option_map (field_slots []) (slice_get cells k)

-- a row was appended, and where it ends; or its fault, or memory was wanted
abbrev pub Appended : Meaning → (old new : Buffered) → Result ℕ Error → Type 0
Appended m old new (Ok end) =
    (m.fault ≡ None) × (new.text ≡ old.text ++ text_of m.text) × (new.refused ≡ false)
    × (end ≡ byte_count new.text)
Appended m old new (Err e) =
    (answer_of e ≡ no_memory) ⊎ (Some (answer_of e) ≡ option_map fault m.fault)

module _ (names : List (List ℕ)) (format : List ℕ) (width : ℕ) (cells : List Field) where
  -- what the format means over a row
  abbrev pub row_means : ℕ → Meaning
  row_means row = values_mean names format (cell_at (take width (drop (row * width) cells)))

  -- the text of so many rows
  abbrev pub rows_text : ℕ → List ℕ
  rows_text zero = []
  rows_text (suc row) = rows_text row ++ text_of (row_means row).text

  -- where each of so many rows ends, in bytes
  abbrev pub rows_ends : ℕ → List ℕ
  rows_ends zero = []
  rows_ends (suc row) = rows_ends row ++ (byte_count (rows_text (suc row)) ∷ [])

  -- none of so many rows has a fault
  abbrev pub Faultless : ℕ → Type 0
  Faultless zero = ⊤
  Faultless (suc row) = Faultless row × ((row_means row).fault ≡ None)

  -- a row was not appended, before which none has a fault; the ends of those before it were noted
  pub record FailsIn (ends_old ends_new : List ℕ) (wrong : RowFault) : Type 0 where
    pub within : wrong.row < length ends_old
    pub before : Faultless wrong.row
    pub ends_before : take wrong.row ends_new ≡ rows_ends wrong.row
    pub ends_after : drop wrong.row ends_new ≡ drop wrong.row ends_old
    pub why : (answer_of wrong.error ≡ no_memory)
        ⊎ (Some (answer_of wrong.error) ≡ option_map fault (row_means wrong.row).fault)

  -- as many rows were appended as there are ends, and it is told where each ends; or one was not
  abbrev pub MadeRows : (ends_old ends_new : List ℕ) → Buffered → Result (Unit {0}) RowFault
      → Type 0
  MadeRows ends_old ends_new new result = MatchResult result
      (λ _. Faultless (length ends_old) × (new.text ≡ rows_text (length ends_old))
      × (ends_new ≡ rows_ends (length ends_old))) (FailsIn ends_old ends_new)

-- a fault after so many rows, and its sentence in the room if it fits there
abbrev pub ReportedAtRow : Answer → (row : ℕ) → (old new : List ℕ) → Reported_answer → Type 0
ReportedAtRow a row old new answer =
    (answer ≡ record (fault_answer a 0) { row = row }) × Reported (answer_text a) old new

module _ (names : List (List ℕ)) (format : List ℕ) (width : ℕ) (cells : List Field) where
  -- all rows are written: their texts one after the other, and where each ends
  pub record AllRows (count : ℕ) (ends old new : List ℕ) (answer : Reported_answer) : Type 0 where
    pub faultless : Faultless names format width cells count
    pub ends_are : ends ≡ rows_ends names format width cells count
    pub reported : answer ≡ text_answer (byte_count (rows_text names format width cells count))
    pub put : Reported (encode_utf8_all (rows_text names format width cells count)) old new

  -- a row is not written, before which none has a fault: its fault is told, or that memory was wanted,
  -- and where each row before it ends; no other end is changed
  pub record StopsInRow (ends_old ends_new old new : List ℕ) (answer : Reported_answer) : Type 0 where
    pub row : ℕ
    pub within : row < length ends_old
    pub before : Faultless names format width cells row
    pub ends_before : take row ends_new ≡ rows_ends names format width cells row
    pub ends_after : drop row ends_new ≡ drop row ends_old
    pub reported : ReportedAtRow no_memory row old new answer
        ⊎ IsSomeAnd (row_means names format width cells row).fault
        (λ f. ReportedAtRow (fault f) row old new answer)

  -- all rows are written, or one is not
  abbrev pub TellsRows : (ends_old ends_new : List ℕ) → (old new : List ℕ) → Reported_answer → Type 0
  TellsRows ends_old ends_new old new answer =
      AllRows (length ends_old) ends_new old new answer
      ⊎ StopsInRow ends_old ends_new old new answer

-- why no row is written: memory was wanted, the format or a name is not UTF-8, a list lies where it
-- may not, or there are not as many cells as there should be
abbrev pub RowsAside : (columns cells : List Field) → List ℕ → (count : ℕ) → (old new : List ℕ)
    → Reported_answer → Type 0
RowsAside columns cells format count old new answer =
    ReportedNoMemory old new answer
    ⊎ ((ReportedNotUtf8 old new answer
    × ((is_utf8 format ≡ false) ⊎ (list_all has_text_name columns ≡ false)))
    ⊎ ((ReportedLists old new answer × ((all_within 0 columns ≡ false) ⊎ (all_within 0 cells ≡ false)))
    ⊎ (ReportedTable old new answer × (length cells ≢ count * length columns))))

-- no row is written, and no end is changed: the first fault of the format over the columns is told,
-- or why that is not known
abbrev pub TellsNoRow : (columns cells : List Field) → List ℕ → (count : ℕ) → (old new : List ℕ)
    → Reported_answer → Type 0
TellsNoRow columns cells format count old new answer =
    ((is_utf8 format ≡ true)
    × ColumnFaults columns format (λ fs. IsSomeAnd (first_fault fs) (ReportedAlone old new answer)))
    ⊎ RowsAside columns cells format count old new answer

-- all rows are told, or up to one that is not written; or why none is
abbrev pub RowsAnswers : (columns cells : List Field) → List ℕ → (ends_old ends_new : List ℕ)
    → (old new : List ℕ) → Reported_answer → Type 0
RowsAnswers columns cells format ends_old ends_new old new answer =
    ((is_utf8 format ≡ true)
    × TellsRows (column_names columns) format (length columns) cells ends_old ends_new old new answer)
    ⊎ (TellsNoRow columns cells format (length ends_old) old new answer × (ends_new ≡ ends_old))
