-- Files of messages and their lines. Texts are bytes.
use Rattle.std.specs.Prelude.{ℕ, ◌+◌, List, [], ◌∷◌, string_bytes}
use Rattle.std.specs.Str.Lines.{lines}
use Rattle.words.specs.{Items.texts_of, Programs.without_mark}
use Rattle.catalogue.specs.{declared.files.File.File, declared.files.Line.Line as LentLine}
use Rattle.catalogue.specs.declared.files.Page.{Page as LentPage}

-- a line of a file: the file's name, the line's number, from 1 on, its text, and the texts of the
-- lines after it
pub record Line : Type 0 where
  pub file : List ℕ
  pub number : ℕ
  pub text : List ℕ
  pub rest : List (List ℕ)

-- a line, borrows aside
abbrev pub as_line : LentLine → Line
as_line line = record {
  file = line.file.now;
  number = line.number;
  text = line.text.now;
  rest = texts_of line.rest.now;
}

-- the name of a file, and the texts of its lines
abbrev pub Page : Type 0
Page = List ℕ × List (List ℕ)

abbrev pub as_page : LentPage → Page
as_page page = (page.file.now, texts_of page.texts.items)

-- those of a file
abbrev pub page_of : File → Page
page_of file = (string_bytes file.name, lines (without_mark (string_bytes file.text)))

-- the lines of a file with these texts, of which the first has this number
abbrev pub numbered : List ℕ → ℕ → List (List ℕ) → List Line
numbered file n [] = []
numbered file n (text ∷ texts) =
    record { file = file; number = n; text = text; rest = texts } ∷ numbered file (n + 1) texts

-- the lines of a file
abbrev pub lines_of : Page → List Line
lines_of page = numbered page.0 1 page.1
