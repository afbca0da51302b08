-- The format of a message, which may go on on the lines after its own. Texts are bytes.
use Rattle.std.specs.Prelude.{ℕ, ◌-◌, List, [], ◌++◌, codes, if◌then◌else◌, length, Option, None}
use Rattle.std.specs.Prelude.{Some, Result}
use Rattle.std.specs.{List.after_first, Str.bytes_eq, Str.trim_start}
use Rattle.folds.specs.Lines.{Spot, folded, spot_of}
use Rattle.folds.specs.Spellings.{place_in, text_in}
use Rattle.interpolator.specs.{Explained.explanation, Explained.usize_sum, declared.Source.Source}
use Rattle.catalogue.specs.{Files.Line, Reports.lent, Reports.reported_at}
use Rattle.words.specs.Words.{is_equals}

-- what the line of a message writes of its format, after the first `=`
abbrev pub text_on_line : List ℕ → List ℕ
text_on_line line = trim_start (after_first is_equals line)

-- what that line and those after it write
abbrev pub written_of : Line → List ℕ
written_of line = text_on_line line.text ++ folded line.rest

-- the format, or the byte of what is written at which a backslash is wrong
abbrev pub format_of : Line → Result (List ℕ) ℕ
format_of line = text_in (written_of line)

-- where a byte of what is written stands
abbrev pub spot_in : Line → ℕ → Spot
spot_in line place =
    spot_of line.text (length line.text - length (text_on_line line.text)) line.rest place

-- the line of that
abbrev pub line_of_spot : Line → Spot → Line
line_of_spot line spot = record {
  file = line.file;
  number = usize_sum line.number spot.index;
  text = spot.text;
  rest = [];
}

-- what is reported at a byte of what the lines of a message write: in the line that writes it
abbrev pub reported_at_spot : Line → Spot → (what : List ℕ) → List ℕ
reported_at_spot line spot what =
    reported_at (line_of_spot line spot) (usize_sum spot.begin spot.byte) what

abbrev pub reported_in : Line → (place : ℕ) → (what : List ℕ) → List ℕ
reported_in line place what = reported_at_spot line (spot_in line place) what

-- a line of a file that ends with its format
abbrev pub source_of : Line → (format : List ℕ) → Source
source_of line format = record {
  name = lent line.file;
  first_line = line.number;
  text = lent line.text;
  start = length line.text - length format;
  format = lent format;
}

-- what is reported at a byte of a line's format: shown as a fault of a format is, if the line
-- writes the format as it is, or else in the line that writes the byte
abbrev pub report_of_place : Line → (format : List ℕ) → Option ℕ → (what : List ℕ) → List ℕ
report_of_place line format None what = []
report_of_place line format (Some place) what =
    if bytes_eq (written_of line) format
    then explanation (source_of line format) (Some place) what ++ codes "\n"
    else reported_in line (place_in (written_of line) place) what
