-- What a caller that is not Rattle is told.
use Rattle.std.specs.Prelude.{◌≡◌, ◌≤◌, ◌⊎◌, ◌<◌, ◌+◌, ◌++◌, ℕ, List, None, Some, Option, length}
use Rattle.std.specs.Prelude.{take, drop}
use Rattle.std.specs.Prelude.{Bool, Result, Ok, Err, MatchOption, true, false, option_map}
use Rattle.std.specs.Prelude.{encode_utf8, encode_utf8_all, unwrap_or, codes, if◌then◌else◌, ◌∷◌}
use Rattle.std.specs.Prelude.{Contains}
use Rattle.std.specs.Str.{bytes_eq, chars, is_utf8}
use Rattle.interpolator_syntax.specs.Faults.{Answer, Fault, fault, no_memory, answer_of}
use Rattle.interpolator_syntax.specs.Faults.{answer_place}
use Rattle.interpolator_syntax.specs.Faults.{missing_trait_impl, fmt, parse, missing_value}
use Rattle.interpolator_syntax.specs.Faults.{unsupported_option, ParseFault, unclosed, expected}
use Rattle.interpolator_syntax.specs.Faults.{invalid_width, invalid_precision, fill, iter}
use Rattle.interpolator_syntax.specs.Faults.{range_bound}
use Rattle.interpolator_syntax.specs.declared.error.NumberError.{NumberError}
use Rattle.interpolator_syntax.specs.declared.error.NumberError.TheVariants as numbers
use Rattle.interpolator_syntax.specs.{FaultTexts.answer_text, Places.Placed, Places.outermost}
use Rattle.interpolator_syntax.specs.{Places.text_of}
use Rattle.interpolator_render.specs.{Views.Shown, Writers.Written, Writers.byte_count}
use Rattle.interpolator_render.specs.{declared.view.Spec.Spec, declared.view.Trait.Trait}
use Rattle.interpolator_eval.specs.Meaning.Meanings.{Meaning, means}
use Rattle.interpolator_eval.specs.{Slots.Slots, Meaning.Environments.environment}
use Rattle.interpolator_eval.specs.Meaning.Outcomes.{Outcome}
use Rattle.interpolator_border.specs.Requests.{slot_code}
use Rattle.interpolator_border.specs.Fields.{AreTrees, field_shows, found_in, lists_lie}
use Rattle.interpolator_border.specs.declared.answer.Answer.{Answer as Reported_answer}
use Rattle.interpolator_border.specs.declared.answer.Failure.{Failure}
use Rattle.interpolator_border.specs.declared.answer.Failure.TheVariants as failure
use Rattle.interpolator_border.specs.declared.fault.Fault.{Fault as Fault_numbers}
use Rattle.interpolator_border.specs.declared.field.Field.{Field}

-- ---- faults

-- the code of a fault
abbrev pub code_of_fault : Fault → ℕ
code_of_fault (missing_trait_impl _ _) = 1
code_of_fault (fmt _) = 2
code_of_fault (parse _) = 3
code_of_fault (missing_value _ _) = 4
code_of_fault (unsupported_option _ _ _) = 5

-- the code of an answer
abbrev pub code_of_answer : Answer → ℕ
code_of_answer (fault f) = code_of_fault f
code_of_answer no_memory = 6

-- 16 times the number of what is wrong with a number
abbrev pub number_code : NumberError → ℕ
number_code numbers.Empty = 16
number_code numbers.InvalidDigit = 32
number_code numbers.PosOverflow = 48
number_code numbers.NegOverflow = 64

-- the number of the text that should be there
abbrev pub expected_code : List ℕ → ℕ
expected_code text = if bytes_eq text (codes "(") then 3 else 2

-- how a format is broken, in a number
abbrev pub parse_code : ParseFault → ℕ
parse_code (unclosed _) = 1
parse_code (expected text _) = expected_code text
parse_code (invalid_width kind _) = 4 + number_code kind
parse_code (invalid_precision kind _) = 5 + number_code kind
parse_code (fill _) = 6
parse_code (iter _) = 7
parse_code (range_bound kind _) = 8 + number_code kind

-- the number of a missing trait, or how the format is broken
abbrev pub detail_of_fault : Fault → ℕ
detail_of_fault (missing_trait_impl t _) = slot_code t
detail_of_fault (parse f) = parse_code f
detail_of_fault _ = 0

-- the same of an answer
abbrev pub detail_of_answer : Answer → ℕ
detail_of_answer (fault f) = detail_of_fault f
detail_of_answer no_memory = 0

-- a fault in numbers
abbrev pub fault_numbers : Answer → Fault_numbers
fault_numbers a = record {
  code = code_of_answer a;
  detail = detail_of_answer a;
  place = unwrap_or (answer_place a) 0;
}

-- what is told of a fault, with so many bytes before it
abbrev pub fault_answer : Answer → ℕ → Reported_answer
fault_answer a written = record {
  code = code_of_answer a;
  detail = detail_of_answer a;
  place = unwrap_or (answer_place a) 0;
  length = written;
  message = length (answer_text a);
  row = 0;
}

-- what is told of a whole text of so many bytes
abbrev pub text_answer : ℕ → Reported_answer
text_answer written =
    record { code = 0; detail = 0; place = 0; length = written; message = 0; row = 0 }

-- what is told by a code and its sentence alone
abbrev pub coded_answer : ℕ → List ℕ → Reported_answer
coded_answer code sentence =
    record { code = code; detail = 0; place = 0; length = 0; message = length sentence; row = 0 }

-- what is told by a code alone, where there is no room for a sentence
abbrev pub bare_answer : ℕ → Reported_answer
bare_answer code = record (text_answer 0) { code = code }

-- the sentences of the codes that are no fault's; that of memory is a fault's text
abbrev pub not_utf8_sentence : List ℕ
not_utf8_sentence = codes "not UTF-8"

abbrev pub lists_sentence : List ℕ
lists_sentence = codes "a list lies where it may not"

abbrev pub full_sentence : List ℕ
full_sentence = codes "the room is too small"

abbrev pub table_sentence : List ℕ
table_sentence = codes "not as many cells as columns times rows"

-- what is told of a room that is too small: the place of the first character that is not in it, and
-- how many bytes are
abbrev pub full_answer : (place written : ℕ) → Reported_answer
full_answer place written =
    record (coded_answer 9 full_sentence) { place = place; length = written }

-- ---- rooms and places

-- as many as there are places for, and no other place is changed
abbrev pub FillsFront : {A : Type 0} → (reported old new : List A) → Type 0
FillsFront reported old new = new ≡ take (length old) reported ++ drop (length reported) old

-- a text lies at the front of the room, if it fits, and nothing else in the room is changed
abbrev pub Reported : List ℕ → List ℕ → List ℕ → Type 0
Reported text old new =
    (length text ≤ length old → take (length text) new ≡ text)
    × (drop (length text) new ≡ drop (length text) old)
    × (length old < length text → new ≡ old)

-- a fault, with the bytes before it, and its sentence in the room if it fits there
abbrev pub ReportedFault : Answer → (written : ℕ) → (old new : List ℕ) → Reported_answer → Type 0
ReportedFault a written old new answer =
    (answer ≡ fault_answer a written) × Reported (answer_text a) old new

-- the same; or memory was wanted for the sentence, and that is told with the bytes before the fault
abbrev pub ReportedBy : Answer → (written : ℕ) → (old new : List ℕ) → Reported_answer → Type 0
ReportedBy a written old new answer =
    ReportedFault no_memory written old new answer ⊎ ReportedFault a written old new answer

-- a fault alone, and its sentence in the room if it fits there
abbrev pub ReportedAlone : (old new : List ℕ) → Reported_answer → Fault → Type 0
ReportedAlone old new answer f = ReportedBy (fault f) 0 old new answer

-- a code alone, and its sentence in the room if it fits there
abbrev pub ReportedCode : ℕ → List ℕ → (old new : List ℕ) → Reported_answer → Type 0
ReportedCode code sentence old new answer =
    (answer ≡ coded_answer code sentence) × Reported sentence old new

-- memory was wanted
abbrev pub ReportedNoMemory : (old new : List ℕ) → Reported_answer → Type 0
ReportedNoMemory old new answer = ReportedFault no_memory 0 old new answer

-- something is not UTF-8
abbrev pub ReportedNotUtf8 : (old new : List ℕ) → Reported_answer → Type 0
ReportedNotUtf8 old new answer = ReportedCode 7 not_utf8_sentence old new answer

-- a list lies where it may not
abbrev pub ReportedLists : (old new : List ℕ) → Reported_answer → Type 0
ReportedLists old new answer = ReportedCode 8 lists_sentence old new answer

-- there are not as many cells as there should be
abbrev pub ReportedTable : (old new : List ℕ) → Reported_answer → Type 0
ReportedTable old new answer = ReportedCode 10 table_sentence old new answer

-- the code of why there is no text
abbrev pub failure_code : Failure → ℕ
failure_code failure.NotUtf8 = 7
failure_code failure.Lists = 8
failure_code failure.Table = 10
failure_code (failure.Fault e) = code_of_answer (answer_of e)

-- why there is no text
abbrev pub ReportedFailure : Failure → (old new : List ℕ) → Reported_answer → Type 0
ReportedFailure failure.NotUtf8 old new answer = ReportedNotUtf8 old new answer
ReportedFailure failure.Lists old new answer = ReportedLists old new answer
ReportedFailure failure.Table old new answer = ReportedTable old new answer
ReportedFailure (failure.Fault e) old new answer = ReportedBy (answer_of e) 0 old new answer

-- ---- a format over a row

-- what fields show
abbrev pub Shows : Type 0
Shows = Field → Trait → Spec → Shown

-- what a format means over a row, both as C passes them, by what the items stand for
abbrev pub row_means : Shows → List Field → List (Slots Field) → List ℕ → Meaning
row_means shows fields trees format =
    means shows (environment (found_in fields trees)) (outermost (chars format))

-- of what a format means over a row, where each item stands for what its field says
pub record Means (shows : Shows) (fields items : List Field) (format : List ℕ)
    (P : Meaning → Type 0) : Type 0 where
  pub trees : List (Slots Field)
  pub are : AreTrees items trees
  pub holds : P (row_means shows fields trees format)

-- memory was wanted, the format is not UTF-8, or a list lies where it may not: the sentence is in the
-- room if it fits there
abbrev pub ReportedAside : (fields items : List Field) → List ℕ → (old new : List ℕ) → Reported_answer
    → Type 0
ReportedAside fields items format old new answer =
    ReportedNoMemory old new answer
    ⊎ ((ReportedNotUtf8 old new answer × (is_utf8 format ≡ false))
    ⊎ (ReportedLists old new answer × (lists_lie fields items ≡ false)))

-- the same by a code alone
abbrev pub CodedAside : (fields items : List Field) → List ℕ → Reported_answer → Type 0
CodedAside fields items format answer =
    (answer ≡ bare_answer 6)
    ⊎ (((answer ≡ bare_answer 7) × (is_utf8 format ≡ false))
    ⊎ ((answer ≡ bare_answer 8) × (lists_lie fields items ≡ false)))

-- ---- what was written

-- a row whose items stand for these was written up to what was told
abbrev pub WritesKnown : Shows → List Field → List (Slots Field) → List ℕ → (old new : Written)
    → Result (Unit {0}) Failure → Type 0
WritesKnown shows fields trees format old new (Ok _) =
    Outcome (row_means shows fields trees format) old new None
WritesKnown shows fields trees format old new (Err (failure.Fault e)) =
    Outcome (row_means shows fields trees format) old new (Some (answer_of e))
WritesKnown shows fields trees format old new (Err _) = ⊥

-- a row was written up to what was told; or lists lie where they may not, or memory was wanted for
-- them, and nothing was written
abbrev pub WritesRow : Shows → (lie : Bool) → (fields items : List Field) → List ℕ
    → (old new : Written) → Result (Unit {0}) Failure → Type 0
WritesRow shows lie fields items format old new (Ok _) =
    Means shows fields items format (λ m. Outcome m old new None)
WritesRow shows lie fields items format old new (Err failure.NotUtf8) = ⊥
WritesRow shows lie fields items format old new (Err failure.Table) = ⊥
WritesRow shows lie fields items format old new (Err failure.Lists) = (lie ≡ false) × (new ≡ old)
WritesRow shows lie fields items format old new (Err (failure.Fault e)) =
    ((answer_of e ≡ no_memory) × (new ≡ old))
    ⊎ Means shows fields items format (λ m. Outcome m old new (Some (answer_of e)))

-- what is told of a fault beside a text of so many bytes that was written: that the room is too small,
-- and where, if the writer refused; or the fault, with its sentence in the other room
abbrev pub TellsFault : (refused : Bool) → (written : ℕ) → Answer → (old new : List ℕ)
    → Reported_answer → Type 0
TellsFault true written a old new answer =
    (answer ≡ full_answer (unwrap_or (answer_place a) 0) written) × Reported full_sentence old new
TellsFault false written a old new answer = ReportedBy a written old new answer

-- what is told beside a text of so many bytes that was written
abbrev pub TellsWritten : (refused : Bool) → (written : ℕ) → Option Answer → (old new : List ℕ)
    → Reported_answer → Type 0
TellsWritten refused written None old new answer = (answer ≡ text_answer written) × (new ≡ old)
TellsWritten refused written (Some a) old new answer = TellsFault refused written a old new answer

-- the same by what a call returned
abbrev pub TellsResult : (refused : Bool) → (written : ℕ) → Result (Unit {0}) Failure
    → (old new : List ℕ) → Reported_answer → Type 0
TellsResult refused written (Ok _) old new answer =
    TellsWritten refused written None old new answer
TellsResult refused written (Err (failure.Fault e)) old new answer =
    TellsWritten refused written (Some (answer_of e)) old new answer
TellsResult refused written (Err why) old new answer = ReportedFailure why old new answer

-- a text fits into the room, and lies at its front; nothing else in the room is changed
abbrev pub Put : List ℕ → (old new : List ℕ) → Type 0
Put text old new = (byte_count text ≤ length old) × Reported (encode_utf8_all text) old new

module _ (m : Meaning) (old new : List ℕ) (sentence_old sentence_new : List ℕ)
    (answer : Reported_answer) where
  -- all of the text before the first fault lies in the room; the fault is told, with its sentence in
  -- the other room, or that there is none
  pub record WroteAll : Type 0 where
    pub put : Put (text_of m.text) old new
    pub tells : MatchOption m.fault
        ((answer ≡ text_answer (byte_count (text_of m.text))) × (sentence_new ≡ sentence_old))
        (λ f. ReportedBy (fault f) (byte_count (text_of m.text)) sentence_old sentence_new answer)

  -- the room is too small for the text before the first fault: it has the longest beginning that fits,
  -- and the place of the character after that is told
  pub record WroteFull : Type 0 where
    pub front : Placed
    pub c : ℕ
    pub place : ℕ
    pub back : Placed
    pub split : m.text ≡ front ++ ((c, place) ∷ back)
    pub put : Put (text_of front) old new
    pub over : length old < byte_count (text_of front) + length (encode_utf8 c)
    pub reported : answer ≡ full_answer place (byte_count (text_of front))
    pub sentence : Reported full_sentence sentence_old sentence_new

  -- memory was wanted: the room has exactly the text before one of the memory points
  pub record WroteSome : Type 0 where
    pub front : Placed
    pub back : Placed
    pub split : m.text ≡ front ++ back
    pub point : Contains m.memory_points (length front)
    pub put : Put (text_of front) old new
    pub reported : ReportedFault no_memory (byte_count (text_of front)) sentence_old sentence_new answer

  -- what lies in the room, and what is told
  abbrev pub Wrote : Type 0
  Wrote = WroteAll ⊎ (WroteFull ⊎ WroteSome)

-- a format was written over a row, up to what was told; or why nothing was
abbrev pub WriteAnswers : (fields items : List Field) → List ℕ → (old new : List ℕ)
    → (sentence_old sentence_new : List ℕ) → Reported_answer → Type 0
WriteAnswers fields items format old new sentence_old sentence_new answer =
    ((is_utf8 format ≡ true)
    × Means field_shows fields items format (λ m. Wrote m old new sentence_old sentence_new answer))
    ⊎ (ReportedAside fields items format sentence_old sentence_new answer × (new ≡ old))

-- ---- a whole text

-- why there is no text of a format over a row
abbrev pub FailsBy : Shows → (fields items : List Field) → List ℕ → Failure → Type 0
FailsBy shows fields items format failure.NotUtf8 = is_utf8 format ≡ false
FailsBy shows fields items format failure.Table = ⊥
FailsBy shows fields items format failure.Lists = lists_lie fields items ≡ false
FailsBy shows fields items format (failure.Fault e) =
    (answer_of e ≡ no_memory) ⊎ ((is_utf8 format ≡ true)
    × Means shows fields items format (λ m. Some (answer_of e) ≡ option_map fault m.fault))

-- a text is told, and in the room if it fits there
abbrev pub ReportedText : List ℕ → (old new : List ℕ) → Reported_answer → Type 0
ReportedText text old new answer = (answer ≡ text_answer (length text)) × Reported text old new

-- the text of a format over a row, or its fault; or why there is none
abbrev pub FormatAnswers : Shows → (fields items : List Field) → List ℕ → (old new : List ℕ)
    → Reported_answer → Type 0
FormatAnswers shows fields items format old new answer =
    ((is_utf8 format ≡ true)
    × Means shows fields items format (λ m. MatchOption m.fault
    (ReportedText (encode_utf8_all (text_of m.text)) old new answer) (ReportedAlone old new answer)))
    ⊎ ReportedAside fields items format old new answer
