-- Messages whose values are in places of an escape. Texts are bytes.
use Rattle.std.specs.Prelude.{◌≡◌, ⊤, ℕ, true, List, Result, Ok, Err}
use Rattle.std.specs.{List.All, Str.chars}
use Rattle.interpolator.specs.Places.{outermost}
use Rattle.interpolator_escapes.specs.{Placing.StandsFor, declared.escape.Escape.Escape}
use Rattle.catalogue.specs.Files.{Line, Page, lines_of}
use Rattle.catalogue.specs.{Formats.format_of, Lines.has_message}

-- the values of a format are in places of an escape
abbrev pub IsPlaced : Escape → List ℕ → Type 0
IsPlaced escape format = StandsFor escape (outermost (chars format))

-- those of a line are, if it has a message with a format
abbrev pub IsPlacedFormat : Escape → Result (List ℕ) ℕ → Type 0
IsPlacedFormat escape (Err place) = ⊤
IsPlacedFormat escape (Ok format) = IsPlaced escape format

abbrev pub IsPlacedLine : Escape → Line → Type 0
IsPlacedLine escape line = has_message line.text ≡ true → IsPlacedFormat escape (format_of line)

-- those of all lines, and those of a file
abbrev pub AllPlaced : Escape → List Line → Type 0
AllPlaced escape some_lines = All (IsPlacedLine escape) some_lines

abbrev pub IsPlacedFile : Escape → Page → Type 0
IsPlacedFile escape page = AllPlaced escape (lines_of page)
