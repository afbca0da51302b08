-- The separator that a text is told by.
use Rattle.std.specs.Prelude.{ℕ, ◌==◌, ◌||◌, ◌++◌, ◌∷◌, [], Bool, false, true, List, Option, None}
use Rattle.std.specs.Prelude.{Some, codes, cond}
use Rattle.std.specs.{List.before_first, List.list_any, Str.bytes_eq}
use Rattle.records.specs.Marks.{byte_of, carriage_return, line_feed}
use Rattle.records.specs.declared.separator.Separator.{Separator}
use Rattle.records.specs.declared.separator.Separator.TheVariants.{Comma, Semicolon, Tab}

-- the first line of a text, without its line feed
abbrev pub first_line : List ℕ → List ℕ
first_line text = before_first (λ b. b == line_feed) text

-- a line has this separator
abbrev pub has : List ℕ → Separator → Bool
has line separator = list_any (λ b. b == byte_of separator) line

-- the one of the three that there is
abbrev pub one_of : (comma semicolon tab : Bool) → Option Separator
one_of true false false = Some Comma
one_of false true false = Some Semicolon
one_of false false true = Some Tab
one_of _ _ _ = None

-- the separator of which alone a line has any
abbrev pub detected_in_line : List ℕ → Option Separator
detected_in_line line = one_of (has line Comma) (has line Semicolon) (has line Tab)

-- a line is `sep=` and this separator, with a carriage return at its end or without
abbrev pub names : Separator → List ℕ → Bool
names separator line = bytes_eq line (codes "sep=" ++ (byte_of separator ∷ []))
    || bytes_eq line (codes "sep=" ++ (byte_of separator ∷ carriage_return ∷ []))

-- the separator that a line names, as `sep=;`
abbrev pub named_in : List ℕ → Option Separator
named_in line = cond (names Comma line) (Some Comma)
    (cond (names Semicolon line) (Some Semicolon)
    (cond (names Tab line) (Some Tab) None))

-- the first of two, or else the second
abbrev pub or_else : Option Separator → Option Separator → Option Separator
or_else (Some separator) other = Some separator
or_else None other = other

-- the separator that the first line of a text names, or else is told by
abbrev pub detected_in : List ℕ → Option Separator
detected_in text = or_else (named_in (first_line text)) (detected_in_line (first_line text))

-- the separator that a word names
abbrev pub named : List ℕ → Option Separator
named word = cond (bytes_eq word (codes ",")) (Some Comma)
    (cond (bytes_eq word (codes ";")) (Some Semicolon)
    (cond (bytes_eq word (codes "tab")) (Some Tab) None))
