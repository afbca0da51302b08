-- What is wrong with a format, by itself or over a row of examples.
use Rattle.std.specs.Prelude.{◌≡◌, ◌⊎◌, ℕ, List, None, Some, Option, Bool, true, false, length, map}
use Rattle.std.specs.Prelude.{Result, Ok, Err, MatchOption, option_map, slice_get, string_bytes}
use Rattle.std.specs.{declared.string.String.String, declared.vec.Vec.Vec, Str.chars, Str.is_utf8}
use Rattle.interpolator_syntax.specs.Faults.{Answer, Fault, fault, no_memory, answer_of}
use Rattle.interpolator_syntax.specs.{Places.outermost, declared.error.Error.Error}
use Rattle.interpolator_eval.specs.{Slots.Slots, Meaning.AskedNames.asked_names}
use Rattle.interpolator_eval.specs.Meaning.Environments.{environment}
use Rattle.interpolator_eval.specs.Meaning.Resembling.{ResemblesOn}
use Rattle.interpolator.specs.Template.NodeChecks.{first_fault, text_faults}
use Rattle.interpolator.specs.{Explained.explanation_of, declared.explaining.Source.Source}
use Rattle.interpolator.specs.Template.NodeSamples.{faults_over}
use Rattle.interpolator_border.specs.Answers.{CodedAside, FillsFront, Reported, ReportedAlone}
use Rattle.interpolator_border.specs.Answers.{ReportedAside}
use Rattle.interpolator_border.specs.Answers.{ReportedNoMemory, ReportedNotUtf8, fault_answer}
use Rattle.interpolator_border.specs.Answers.{fault_numbers, row_means, text_answer}
use Rattle.interpolator_border.specs.Fields.{AreTrees, field_shows, found_in, lists_lie}
use Rattle.interpolator_border.specs.declared.answer.Answer.{Answer as Reported_answer}
use Rattle.interpolator_border.specs.declared.answer.Failure.{Failure}
use Rattle.interpolator_border.specs.declared.answer.Failure.TheVariants as failure
use Rattle.interpolator_border.specs.declared.explaining.Source.{Source as Reported_source}
use Rattle.interpolator_border.specs.declared.fault.Fault.{Fault as Fault_numbers}
use Rattle.interpolator_border.specs.declared.field.Field.{Field}

-- the faults of a format over a row of examples, both as C passes them, by what the items stand for
abbrev pub row_faults : List Field → List (Slots Field) → List ℕ → List Fault
row_faults fields trees format =
    faults_over field_shows (found_in fields trees) (outermost (chars format))

-- of the faults of a format over a row of examples, where each item stands for what its field says
pub record Faults (fields items : List Field) (format : List ℕ) (P : List Fault → Type 0) : Type 0 where
  pub trees : List (Slots Field)
  pub are : AreTrees items trees
  pub holds : P (row_faults fields trees format)

-- the errors are these faults
abbrev pub AreFaults : List Error → List Fault → Type 0
AreFaults errors fs = map answer_of errors ≡ map fault fs

-- the fault of that number, counted from 0, or that there is none
abbrev pub IsFaultAt : List Fault → (which : ℕ) → Option Error → Type 0
IsFaultAt fs which None = slice_get fs which ≡ None
IsFaultAt fs which (Some e) = Some (answer_of e) ≡ option_map fault (slice_get fs which)

-- what is at that number among errors that are faults
abbrev pub FoundAt : List Error → (which : ℕ) → Option Error → Type 0
FoundAt errors which found = (fs : List Fault) → AreFaults errors fs → IsFaultAt fs which found

-- all faults over a row whose items stand for these; or memory was wanted
abbrev pub FindsKnown : List Field → List (Slots Field) → List ℕ
    → {Z : Type 0} → Result (Vec Error Z) Failure → Type 0
FindsKnown fields trees format (Ok found) =
    AreFaults found.items (row_faults fields trees format)
FindsKnown fields trees format (Err (failure.Fault e)) = answer_of e ≡ no_memory
FindsKnown fields trees format (Err _) = ⊥

-- all faults over a row of examples; or lists lie where they may not, or memory was wanted
abbrev pub Finds : (lie : Bool) → (fields items : List Field) → List ℕ
    → {Z : Type 0} → Result (Vec Error Z) Failure → Type 0
Finds lie fields items format (Ok found) = Faults fields items format (AreFaults found.items)
Finds lie fields items format (Err failure.Lists) = lie ≡ false
Finds lie fields items format (Err (failure.Fault e)) = answer_of e ≡ no_memory
Finds lie fields items format (Err _) = ⊥

-- the same of a format that is given by its bytes
abbrev pub FindsBytes : (fields items : List Field) → List ℕ
    → {Z : Type 0} → Result (Vec Error Z) Failure → Type 0
FindsBytes fields items format (Err failure.NotUtf8) = is_utf8 format ≡ false
FindsBytes fields items format result =
    (is_utf8 format ≡ true) × Finds (lists_lie fields items) fields items format result

-- there is no fault, and nothing is told
abbrev pub ReportedNone : (old new : List ℕ) → Reported_answer → Type 0
ReportedNone old new answer = (answer ≡ text_answer 0) × (new ≡ old)

-- there is no fault; or there is this one, which is told with its sentence
abbrev pub TellsFound : Option Fault → (old new : List ℕ) → Reported_answer → Type 0
TellsFound found old new answer =
    MatchOption found (ReportedNone old new answer) (ReportedAlone old new answer)

-- there is no fault, or the first is told; or why that is not known
abbrev pub CheckAnswers : (fields items : List Field) → List ℕ → List ℕ → List ℕ
    → Reported_answer → Type 0
CheckAnswers fields items format old new answer =
    ((is_utf8 format ≡ true)
    × Faults fields items format (λ fs. TellsFound (first_fault fs) old new answer))
    ⊎ ReportedAside fields items format old new answer

-- a format makes no fault over any row that resembles these examples, where each item stands for what
-- its field says
pub record NeverFails (fields items : List Field) (format : List ℕ) : Type 0 where
  pub trees : List (Slots Field)
  pub are : AreTrees items trees
  pub never : (row row_items : List Field) (row_trees : List (Slots Field))
      → AreTrees row_items row_trees
      → ResemblesOn field_shows field_shows (environment (found_in row row_trees))
      (environment (found_in fields trees)) (asked_names (outermost (chars format)))
      → (row_means field_shows row row_trees format).fault ≡ None

-- all faults in numbers, as many as there are places for, and how many they are; or why they are not
-- known
abbrev pub FaultsAnswers : (fields items : List Field) → List ℕ → (old new : List Fault_numbers)
    → Reported_answer → Type 0
FaultsAnswers fields items format old new answer =
    ((is_utf8 format ≡ true) × Faults fields items format (λ fs.
    (answer ≡ text_answer (length fs))
    × FillsFront (map fault_numbers (map fault fs)) old new))
    ⊎ (CodedAside fields items format answer × (new ≡ old))

-- ---- a format by itself

-- the first fault of a format by itself, if it has one
abbrev pub alone_fault : List ℕ → Option Fault
alone_fault format = first_fault (text_faults (outermost (chars format)))

-- that fault, or none; or the format is not UTF-8, or memory was wanted
abbrev pub CheckedAlone : List ℕ → Result (Unit {0}) Failure → Type 0
CheckedAlone format (Ok _) = (is_utf8 format ≡ true) × (alone_fault format ≡ None)
CheckedAlone format (Err failure.NotUtf8) = is_utf8 format ≡ false
CheckedAlone format (Err (failure.Fault e)) =
    (answer_of e ≡ no_memory)
    ⊎ ((is_utf8 format ≡ true) × (Some (answer_of e) ≡ option_map fault (alone_fault format)))
CheckedAlone format (Err _) = ⊥

-- there is no fault, or the first is told; or memory was wanted, or the format is not UTF-8
abbrev pub AloneAnswers : List ℕ → (old new : List ℕ) → Reported_answer → Type 0
AloneAnswers format old new answer =
    ((is_utf8 format ≡ true) × TellsFound (alone_fault format) old new answer)
    ⊎ (ReportedNoMemory old new answer ⊎ (ReportedNotUtf8 old new answer × (is_utf8 format ≡ false)))

-- ---- a fault as a compiler shows it

-- what is told of an answer to a format of this source
pub record Pictured (of : Reported_source) (format : List ℕ) (a : Answer) (picture : List ℕ)
    : Type 0 where
  pub source : Source
  pub name_is : source.name.now ≡ of.name.now
  pub line_is : source.first_line ≡ of.first_line
  pub text_is : source.text.now ≡ of.text.now
  pub start_is : source.start ≡ of.start
  pub format_is : source.format.now ≡ format
  pub is : picture ≡ explanation_of source a

-- the name or the text of a source is not UTF-8
abbrev pub NoTexts : Reported_source → Type 0
NoTexts of = (is_utf8 of.name.now ≡ false) ⊎ (is_utf8 of.text.now ≡ false)

-- the picture; or why there is none
abbrev pub PictureMade : Reported_source → (format : List ℕ) → Answer
    → {Z : Type 0} → Result (String Z) Failure → Type 0
PictureMade of format a (Ok picture) = Pictured of format a (string_bytes picture)
PictureMade of format a (Err failure.NotUtf8) = NoTexts of ⊎ (is_utf8 format ≡ false)
PictureMade of format a (Err (failure.Fault e)) = answer_of e ≡ no_memory
PictureMade of format a (Err _) = ⊥

-- a fault is told with its picture
pub record ReportedPicture (of : Reported_source) (format : List ℕ) (old new : List ℕ)
    (answer : Reported_answer) (a : Answer) : Type 0 where
  pub picture : List ℕ
  pub of_fault : Pictured of format a picture
  pub reported : answer ≡ record (fault_answer a 0) { message = length picture }
  pub put : Reported picture old new

-- it is; or memory was wanted, or something is not UTF-8
abbrev pub TellsPicture : Reported_source → List ℕ → Answer → (old new : List ℕ) → Reported_answer
    → Type 0
TellsPicture of format a old new answer =
    ReportedPicture of format old new answer a
    ⊎ (ReportedNoMemory old new answer
    ⊎ (ReportedNotUtf8 old new answer × (NoTexts of ⊎ (is_utf8 format ≡ false))))

-- there is no fault of that number, counted from 0, or it is told with its picture; or why that is not
-- known
abbrev pub ExplainAnswers : Reported_source → (fields items : List Field) → (which : ℕ) → List ℕ
    → List ℕ → List ℕ → Reported_answer → Type 0
ExplainAnswers of fields items which format old new answer =
    ((is_utf8 format ≡ true) × Faults fields items format (λ fs.
    MatchOption (slice_get fs which) (ReportedNone old new answer)
    (λ f. ReportedPicture of format old new answer (fault f))))
    ⊎ (ReportedAside fields items format old new answer ⊎ (ReportedNotUtf8 old new answer × NoTexts of))
