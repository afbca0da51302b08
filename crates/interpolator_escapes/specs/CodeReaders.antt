-- The states of readers in the code, as the states that are defined, and what the code tells of a
-- character.
use Rattle.std.specs.Prelude.{◌≡◌, ℕ, ◌+◌, ◌*◌, Bool, true, false, List, [], ◌∷◌}
use Rattle.interpolator_escapes.specs.Readers.{Token, content, structure}
use Rattle.interpolator_escapes.specs.Csv.{CsvState, field_start, bare, quoted, quote_seen}
use Rattle.interpolator_escapes.specs.Json.{JsonState, between, in_string, after_slash, in_code}
use Rattle.interpolator_escapes.specs.Shell.{ShellState, outside, single_quoted, elsewhere}
use Rattle.interpolator_escapes.specs.Shell.{after_slash as shell_slash}
use Rattle.interpolator_escapes.specs.declared.readers.csv.CsvReader.{CsvReader}
use Rattle.interpolator_escapes.specs.declared.readers.csv.CsvReader.TheVariants as csv
use Rattle.interpolator_escapes.specs.declared.readers.json.JsonReader.{JsonReader}
use Rattle.interpolator_escapes.specs.declared.readers.json.JsonReader.TheVariants as json
use Rattle.interpolator_escapes.specs.declared.readers.shell.ShellReader.{ShellReader}
use Rattle.interpolator_escapes.specs.declared.readers.shell.ShellReader.TheVariants as shell

-- whether any of what was read is structure
abbrev pub has_structure : List Token → Bool
has_structure [] = false
has_structure (content c ∷ ts) = has_structure ts
has_structure (structure c ∷ ts) = true

-- what is read leads to t, and there is structure in it or not
abbrev pub Reads : {S : Type 0} → S × List Token → S → Bool → Type 0
Reads what t structured = (t ≡ what.0) × (structured ≡ has_structure what.1)

-- so does a character, for a reader at s
abbrev pub ReadsOne : {S : Type 0} (step : S → ℕ → S × List Token) → S → ℕ → S → Bool → Type 0
ReadsOne step s c t structured = Reads (step s c) t structured

abbrev pub csv_state : CsvReader → CsvState
csv_state csv.FieldStart = field_start
csv_state csv.Bare = bare
csv_state csv.Quoted = quoted
csv_state csv.QuoteSeen = quote_seen

abbrev pub json_state : JsonReader → JsonState
json_state json.Between = between
json_state json.InString = in_string
json_state json.AfterSlash = after_slash
json_state json.FirstDigit = in_code 4 0
json_state (json.SecondDigit a) = in_code 3 a
json_state (json.ThirdDigit a b) = in_code 2 (a * 16 + b)
json_state (json.FourthDigit a b c) = in_code 1 ((a * 16 + b) * 16 + c)

abbrev pub shell_state : ShellReader → ShellState
shell_state shell.Outside = outside
shell_state shell.AfterSlash = shell_slash
shell_state shell.SingleQuoted = single_quoted
shell_state shell.Elsewhere = elsewhere
