-- What is told of a format whose values are written escaped.
use Rattle.std.specs.Prelude.{◌≡◌, ◌⊎◌, ◌==◌, ℕ, true, List, Option, Some, None, codes}
use Rattle.std.specs.Prelude.{if◌then◌else◌}
use Rattle.std.specs.Str.{chars, is_utf8}
use Rattle.interpolator_syntax.specs.Places.{outermost}
use Rattle.interpolator_escapes.specs.Placing.{FailsFor, StandsFor}
use Rattle.interpolator_escapes.specs.declared.escape.Escape.TheVariants.{Line, Html, Csv, Json}
use Rattle.interpolator_escapes.specs.declared.escape.Escape.TheVariants.{Shell}
use Rattle.interpolator_escapes.specs.declared.{escape.Escape.Escape, misplaced.Misplaced.Misplaced}
use Rattle.interpolator_escapes.specs.declared.misplaced.PlaceError.{PlaceError}
use Rattle.interpolator_escapes.specs.{Formats.escaped_shows, PlaceTexts.why_text}
use Rattle.interpolator_escapes.specs.declared.misplaced.PlaceError.TheVariants as errors
use Rattle.interpolator_escapes.specs.declared.misplaced.Why.{Why}
use Rattle.interpolator_escapes.specs.declared.misplaced.Why.TheVariants.{Value, Item, Join, Fill}
use Rattle.interpolator_border.specs.Answers.{FormatAnswers, Reported, ReportedAside}
use Rattle.interpolator_border.specs.Answers.{ReportedNoMemory}
use Rattle.interpolator_border.specs.Answers.{coded_answer}
use Rattle.interpolator_border.specs.Fields.{field_shows}
use Rattle.interpolator_border.specs.declared.answer.Answer.{Answer as Reported_answer}
use Rattle.interpolator_border.specs.declared.field.Field.{Field}

-- the escape of a number
abbrev pub escape_numbered : ℕ → Option Escape
escape_numbered number =
    if number == 1 then Some Line
    else if number == 2 then Some Html
    else if number == 3 then Some Csv
    else if number == 4 then Some Json
    else if number == 5 then Some Shell
    else None

-- the sentence of a number that is no escape's
abbrev pub no_escape_sentence : List ℕ
no_escape_sentence = codes "there is no such escape"

-- why a value is out of place, in a number
abbrev pub why_code : Why → ℕ
why_code Value = 1
why_code Item = 2
why_code Join = 3
why_code Fill = 4

-- what is told of a value that is out of place
abbrev pub misplaced_answer : Misplaced → Reported_answer
misplaced_answer m =
    record (coded_answer 11 (why_text m.why)) { detail = why_code m.why; place = m.place }

-- why it is not known that all values stand is told: the first that does not, or that memory was wanted
abbrev pub TellsPlace : PlaceError → (old new : List ℕ) → Reported_answer → Type 0
TellsPlace (errors.Misplaced m) old new answer =
    (answer ≡ misplaced_answer m) × Reported (why_text m.why) old new
TellsPlace errors.NoMemory old new answer = ReportedNoMemory old new answer

-- the values of a format do not all stand in places, and the first that does not is told
pub record ReportedMisplaced (escape : Escape) (format old new : List ℕ) (answer : Reported_answer)
    : Type 0 where
  pub is_text : is_utf8 format ≡ true
  pub refused : StandsFor escape (outermost (chars format)) → ⊥
  pub misplaced : Misplaced
  pub first : FailsFor escape (outermost (chars format)) misplaced
  pub reported : answer ≡ misplaced_answer misplaced
  pub put : Reported (why_text misplaced.why) old new

-- the values of a format stand in places, and its text over a row is told with each of them escaped,
-- or its fault; or the first that does not stand is told; or why neither is known
abbrev pub EscapedBy : Escape → (fields items : List Field) → List ℕ → (old new : List ℕ)
    → Reported_answer → Type 0
EscapedBy escape fields items format old new answer =
    (StandsFor escape (outermost (chars format))
    × FormatAnswers (escaped_shows escape field_shows) fields items format old new answer)
    ⊎ (ReportedMisplaced escape format old new answer ⊎ ReportedAside fields items format old new answer)
