-- What is reported at a byte of a line. Texts are bytes.
use Rattle.std.specs.Prelude.{ℕ, Bool, ◌==◌, List, [], ◌++◌, codes}
use Rattle.std.specs.{Borrow.Bor, Fmt.decimal, List.after_first}
use Rattle.interpolator.specs.{Faults.fault, Faults.fmt, Explained.explanation_of}
use Rattle.interpolator.specs.{Positions.column_at, declared.Source.Source}
use Rattle.catalogue.specs.Files.{Line}

-- the end of a line
abbrev pub is_newline : ℕ → Bool
is_newline b = b == 10

-- a borrowed text, at any address
abbrev pub lent : List ℕ → Bor (List ℕ)
lent text = record { ref_ptr = (0, 0); now = text }

-- an empty format at a byte of a line
abbrev pub empty_at : Line → ℕ → Source
empty_at line place = record {
  name = lent [];
  first_line = line.number;
  text = lent line.text;
  start = place;
  format = lent [];
}

-- the line with a mark under the character at a byte: what stands below the first line of what
-- explains a fault there
unfoldable pub picture_at : Line → ℕ → List ℕ
picture_at line place =
    after_first is_newline (explanation_of (empty_at line place) (fault (fmt 0)))

-- what is reported at a byte of a line: the file, the line's number, the column, what it is, and
-- the line with a mark
abbrev pub reported_at : Line → ℕ → List ℕ → List ℕ
reported_at line place what = line.file ++ (codes ":" ++ (decimal line.number ++ (codes ":"
    ++ (decimal (column_at line.text place) ++ (codes ": " ++ (what ++ (codes "\n"
    ++ (picture_at line place ++ codes "\n"))))))))
