-- The reader of each escape, and what it reads.
use Rattle.std.specs.Prelude.{ℕ, Bool, List, ⊤}
use Rattle.interpolator_render.specs.{declared.view.Spec.Spec, declared.view.Trait.Trait}
use Rattle.interpolator_syntax.specs.Places.{At}
use Rattle.interpolator_escapes.specs.Csv.{CsvState, field_start, csv_step, is_csv_place}
use Rattle.interpolator_escapes.specs.Html.{HtmlState, html_start, html_step, is_html_place}
use Rattle.interpolator_escapes.specs.Json.{JsonState, between, json_step, is_json_place}
use Rattle.interpolator_escapes.specs.Lines.{LineState, in_line, line_step, is_line_place}
use Rattle.interpolator_escapes.specs.Shell.{ShellState, outside, shell_step, is_shell_place}
use Rattle.interpolator_escapes.specs.declared.escape.Escape.TheVariants.{Line, Html, Csv, Json}
use Rattle.interpolator_escapes.specs.declared.escape.Escape.TheVariants.{Shell}
use Rattle.interpolator_escapes.specs.{Readers.Token, Readers.read, Parts.Part, Parts.read_parts}
use Rattle.interpolator_escapes.specs.{Formats.Stands, declared.escape.Escape.Escape}

-- a reader: its states, what it makes of a character, where a value may stand, and where it begins
pub record Language : Type 1 where
  pub State : Type 0
  pub step : State → ℕ → State × List Token
  pub is_place : State → Trait → Spec → Bool
  pub start : State

-- the reader that an escape is for
abbrev pub language : Escape → Language
language Line = record {
  State = LineState;
  step = line_step;
  is_place = is_line_place;
  start = in_line;
}
language Html = record {
  State = HtmlState;
  step = html_step;
  is_place = is_html_place;
  start = html_start;
}
language Csv = record {
  State = CsvState;
  step = csv_step;
  is_place = is_csv_place;
  start = field_start;
}
language Json = record {
  State = JsonState;
  step = json_step;
  is_place = is_json_place;
  start = between;
}
language Shell = record {
  State = ShellState;
  step = shell_step;
  is_place = is_shell_place;
  start = outside;
}

-- what it reads in a text
abbrev pub read_by : Escape → List ℕ → List Token
read_by escape cs = read (language escape).step (language escape).start cs

-- what it reads in the literals of parts, with the characters of each value as content between them
abbrev pub read_parts_by : Escape → List Part → List Token
read_parts_by escape parts = read_parts (language escape).step (language escape).start parts

-- each value of a format stands in a place of its reader
abbrev pub StandsIn : Escape → At → Type 0
StandsIn escape a =
    let l = language escape in (t : l.State) × Stands l.step l.is_place l.start a t

-- what this asks of a line that may be written: that no value stands after a backslash of the
-- format that is no pair; of the others, nothing more
abbrev pub PairedIn : Escape → At → Type 0
PairedIn Line a = StandsIn Line a
PairedIn _ a = ⊤
