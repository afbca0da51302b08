-- What a writer that keeps a text while it fits has taken, and what is told of it.
use Rattle.std.specs.Prelude.{ℕ, List, ◌++◌, ◌||◌, ◌⊎◌, Bool, true, false, Result, Ok, Err}
use Rattle.std.specs.Prelude.{encode_utf8_all}
use Rattle.interpolator_render.specs.Writers.{Written, plain}
use Rattle.interpolator_border.specs.Answers.{ReportedFailure, ReportedNoMemory, ReportedText}
use Rattle.interpolator_border.specs.declared.answer.Answer.{Answer as Reported_answer}
use Rattle.interpolator_border.specs.declared.answer.Failure.{Failure}
use Rattle.interpolator_border.specs.declared.measured.Measured.{Measured}

-- it has taken what it keeps, and what it only counted
abbrev pub measured : Measured → Written
measured m = record {
  text = m.kept.text ++ m.rest.text;
  refused = m.kept.refused || m.refused;
  origin = plain;
}

-- a text is told, and in the room if it fits there; or memory was wanted
abbrev pub TellsText : List ℕ → (old new : List ℕ) → Reported_answer → Type 0
TellsText text old new answer =
    ReportedText (encode_utf8_all text) old new answer ⊎ ReportedNoMemory old new answer

-- why there is no text is told: that memory was wanted, if the writer refused
abbrev pub TellsWhy : (refused : Bool) → Failure → (old new : List ℕ) → Reported_answer → Type 0
TellsWhy true why old new answer = ReportedNoMemory old new answer
TellsWhy false why old new answer = ReportedFailure why old new answer

-- what was written is told
abbrev pub TellsMade : Written → Result (Unit {0}) Failure → (old new : List ℕ) → Reported_answer
    → Type 0
TellsMade made (Ok _) old new answer = TellsText made.text old new answer
TellsMade made (Err why) old new answer = TellsWhy made.refused why old new answer
