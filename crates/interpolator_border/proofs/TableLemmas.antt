-- What is told of a table.
use Rattle.std.specs.{Borrow.Bor, Str.chars, Str.is_utf8, Str.IsUtf8}
use Rattle.std.proofs.Common.{arith, ◌≡◌, ◌⊎◌, inl, inr, ◌∙◌, ap, List, ℕ, Some, true, Err, length}
use Rattle.std.proofs.Common.{Option, option_map, refl, subst, sym}
use Rattle.std.specs.Prelude.{IsSomeAnd}
use Rattle.std.proofs.lemmas.Str.{encodes-chars}
use Rattle.interpolator_syntax.specs.Places.{outermost}
use Rattle.interpolator_syntax.specs.Faults.{Answer, Fault, fault, no_memory, answer_of}
use Rattle.interpolator_eval.specs.{Contexts.found_by_pairs, declared.slots.Formattable.Formattable}
use Rattle.interpolator.specs.Prepared.Rows.{PreparedFormat}
use Rattle.interpolator.specs.Template.{Collecting.AnswersFirst, NodeSamples.faults_over}
use Rattle.interpolator_border.specs.Answers.{Reported, ReportedAlone, ReportedBy, ReportedFailure}
use Rattle.interpolator_border.specs.Answers.{ReportedFault}
use Rattle.interpolator_border.specs.Answers.{text_answer}
use Rattle.interpolator_border.specs.Tables.{ColumnFaults, FailsIn, Prepares, RowsAnswers, AllRows}
use Rattle.interpolator_border.specs.Tables.{Faultless, Pairs, TellsNoRow, TellsRows, ReportedAtRow}
use Rattle.interpolator_border.specs.Tables.{column_names, rows_ends, rows_text}
use Rattle.interpolator_border.specs.declared.answer.Answer.{Answer as Reported_answer}
use Rattle.interpolator_border.specs.{Fields.field_shows, declared.answer.Failure.Failure}
use Rattle.interpolator_border.specs.{declared.field.Field.Field, declared.table.RowFault.RowFault}
use Rattle.interpolator_border.proofs.AnswerLemmas.{out_of_memory, some_fault}
use Rattle.interpolator_border.specs.declared.answer.Failure.TheVariants as failure

-- an answer is told with the row
at_row : (a : Answer) (row : ℕ) (old new : List ℕ) (reported answer : Reported_answer)
    → answer ≡ record reported { row = row } → ReportedFault a 0 old new reported
    → ReportedAtRow a row old new answer
at_row a row old new reported answer is fails = (
  is ∙ ap {A = Reported_answer} {B = Reported_answer} (λ t. record t { row = row }) fails.0,
  fails.1,
)

-- why a row was not appended is told: memory was wanted, or its fault
in_row : (a : Answer) (found : Option Fault) (row : ℕ) (old new : List ℕ) (reported answer : Reported_answer)
    → answer ≡ record reported { row = row }
    → (a ≡ no_memory) ⊎ (Some a ≡ option_map fault found) → ReportedBy a 0 old new reported
    → ReportedAtRow no_memory row old new answer
    ⊎ IsSomeAnd found (λ f. ReportedAtRow (fault f) row old new answer)
in_row a found row old new reported answer is why (inl none) =
    inl (at_row no_memory row old new reported answer is none)
in_row a found row old new reported answer is (inl wants) (inr fails) =
    inl (subst (λ b. ReportedAtRow b row old new answer) wants
    (at_row a row old new reported answer is fails))
in_row a found row old new reported answer is (inr same) (inr fails) =
    inr (some_fault (λ b. ReportedAtRow b row old new answer) found a same
    (at_row a row old new reported answer is fails))

module _ (names : List (List ℕ)) (format : List ℕ) (width : ℕ) (cells : List Field) where
  -- that a row was not appended is told
  pub row_fails : (wrong : RowFault) (ends_old ends_new : List ℕ) (old new : List ℕ)
      (reported answer : Reported_answer) → FailsIn names format width cells ends_old ends_new wrong
      → ReportedBy (answer_of wrong.error) 0 old new reported → answer ≡ record reported { row = wrong.row }
      → TellsRows names format width cells ends_old ends_new old new answer
  row_fails wrong ends_old ends_new old new reported answer fails tells is =
      inr (record {
        row = wrong.row;
        within = fails.within;
        before = fails.before;
        ends_before = fails.ends_before;
        ends_after = fails.ends_after;
        reported = in_row (answer_of wrong.error) _ wrong.row old new reported answer is fails.why tells;
      })

module _ (columns cells : List Field) (format : List ℕ) (ends_old ends_new old new : List ℕ)
    (answer : Reported_answer) (same : ends_new ≡ ends_old) where
  by_answer : (a : Answer) → is_utf8 format ≡ true
      → ColumnFaults columns format (λ fs. AnswersFirst fs (Some a)) → ReportedBy a 0 old new answer
      → TellsNoRow columns cells format (length ends_old) old new answer
  by_answer (fault f) utf8 faults reported =
      inl (
        utf8,
        record {
          pairs = faults.pairs;
          are = faults.are;
          holds = subst (λ found. IsSomeAnd found (ReportedAlone old new answer)) (sym faults.holds) reported;
        },
      )
  by_answer no_memory utf8 faults reported =
      inr (inl (out_of_memory 0 old new answer no_memory refl reported))

  -- why the format is not prepared is told
  pub columns_fail : (why : Failure)
      → Prepares columns format (Err why) → ReportedFailure why old new answer
      → RowsAnswers columns cells format ends_old ends_new old new answer
  columns_fail failure.NotUtf8 fails reported = inr (inr (inr (inl (reported, fails))), same)
  columns_fail failure.Lists fails reported = absurd fails
  columns_fail failure.Table fails reported = absurd fails
  columns_fail (failure.Fault e) (inl wants) reported =
      inr (inr (inl (out_of_memory 0 old new answer (answer_of e) wants reported)), same)
  columns_fail (failure.Fault e) (inr fails) reported =
      inr (by_answer (answer_of e) fails.0 fails.1 reported, same)

  -- that memory was wanted for the rows is told
  pub no_rows : ReportedBy no_memory 0 old new answer
      → RowsAnswers columns cells format ends_old ends_new old new answer
  no_rows reported = inr (inr (inl (out_of_memory 0 old new answer no_memory refl reported)), same)

-- the first fault over the columns, by the pairs that were made of them
pub column_faults : (columns : List Field) (format text template : List ℕ)
    (pairs made : List (Bor (List ℕ) × Formattable Field)) (a : Answer) → text ≡ format
    → is_utf8 format ≡ true → template ≡ text → pairs ≡ made → Pairs columns made
    → (a ≡ no_memory) ⊎ AnswersFirst (faults_over field_shows (found_by_pairs pairs)
    (outermost (chars template))) (Some a)
    → (a ≡ no_memory) ⊎ ((is_utf8 format ≡ true)
    × ColumnFaults columns format (λ fs. AnswersFirst fs (Some a)))
column_faults columns format text template pairs made a is utf8 same by are first =
    grind (arith, is, utf8, same, by, are, first)

-- all rows are written
pub all_rows : (names : List (List ℕ)) (format : List ℕ) (width : ℕ)
    (cells : List Field) (count : ℕ) (text ends bytes old new : List ℕ)
    (answer : Reported_answer) → Faultless names format width cells count
    → text ≡ rows_text names format width cells count
    → ends ≡ rows_ends names format width cells count → chars bytes ≡ text → IsUtf8 bytes
    → Reported bytes old new → answer ≡ text_answer (length bytes)
    → AllRows names format width cells count ends old new answer
all_rows names format width cells count text ends bytes old new answer faultless is ends_are by utf8
    put reported = grind (arith, encodes-chars)

-- all rows of cells are told, by the format and the columns
pub rows_reported : (columns cells : List Field) (format : List ℕ) (line : PreparedFormat)
    (ends_old ends_new : List ℕ) (old new : List ℕ) (answer : Reported_answer)
    → is_utf8 format ≡ true → line ≡ record { text = format; names = column_names columns }
    → TellsRows line.names line.text (length columns) cells ends_old ends_new old new answer
    → RowsAnswers columns cells format ends_old ends_new old new answer
rows_reported columns cells format line ends_old ends_new old new answer utf8 is reported =
    grind (arith, utf8, is, reported)
