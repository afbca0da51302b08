-- The line that is looked up, by its key or by the form that the rule of a file chooses.
use Rattle.std.specs.Prelude.{ℕ, Bool, List, if◌then◌else◌, Option, None, Some, Result, Ok, Err}
use Rattle.std.specs.{List.list_any, Option.option_map, Str.bytes_eq}
use Rattle.catalogue.specs.Files.{Line, Page, as_line, lines_of}
use Rattle.catalogue.specs.Forms.{Chosen, choice_with, first_given, key_by, rule_of}
use Rattle.catalogue.specs.Lines.{declared_of, has_message, is_under, key_of}
use Rattle.catalogue.specs.{Declarations.Declared, Declarations.declared_by, Formats.format_of}
use Rattle.catalogue.specs.{declared.checks.Found.Found, declared.entries.Object.Object}
use Rattle.words.specs.{Declarations.as_declaration, declared.Kind.Kind}

-- one of some lines has a message under a key
abbrev pub has_key : List ℕ → List (List ℕ) → Bool
has_key key some_lines = list_any (is_under key) some_lines

-- the form of a key that is looked up in some lines, if none of them has the key itself
abbrev pub choice_for : List Object → List ℕ → List (List ℕ) → Option Chosen
choice_for objects key some_lines =
    if has_key key some_lines then None else choice_with objects (rule_of some_lines)

-- the key that is looked up in some lines: the key itself, or the form of it that their rule
-- chooses by the numbers and texts of objects; and what is missing for that
abbrev pub sought : List Object → List ℕ → List (List ℕ) → Chosen
sought objects key some_lines = key_by key (choice_for objects key some_lines)

-- a line that was found, what is missing to choose its form, if anything is, its format, and what
-- it declares
pub record Known : Type 0 where
  pub line : Line
  pub lacks : Option (List ℕ × Kind)
  pub format : List ℕ
  pub declared : Declared

-- a line with this key, these declarations and this format, if that is the key that is looked up
abbrev pub found_by : Line → (key : List ℕ) → Declared → Result (List ℕ) ℕ
    → Chosen → Option Known
found_by line key declared (Err place) wanted = None
found_by line key declared (Ok format) wanted =
    if bytes_eq key wanted.0 then Some (record {
      line = line;
      lacks = wanted.1;
      format = format;
      declared = declared;
    }) else None

-- a line, if it has the key that is looked up
abbrev pub line_for : Chosen → Line → Option Known
line_for wanted line =
    if has_message line.text
    then found_by line (key_of line.text) (declared_of line.text) (format_of line) wanted else None

-- the line of a key in a file, or that of its form
abbrev pub found_in : List Object → List ℕ → Page → Option Known
found_in objects key page = first_given (line_for (sought objects key page.1)) (lines_of page)

-- the line of a key, or of its form, in the first of some files that has it
abbrev pub found_among : List Object → List ℕ → List Page → Option Known
found_among objects key pages = first_given (found_in objects key) pages

-- a line as the program finds it
abbrev pub as_found : Found → Known
as_found one = record {
  line = as_line one.line;
  lacks = option_map as_declaration one.lacks;
  format = one.template;
  declared = declared_by one.heading;
}
