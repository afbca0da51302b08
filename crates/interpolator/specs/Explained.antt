-- A fault as a compiler shows it: where it is, what it is, and the line with `^` under its place
-- and `~` under the rest of its argument.
use Rattle.std.specs.Prelude.{ℕ, ◌+◌, ◌-◌, ◌^◌, ◌==◌, min, nat_lt, if◌then◌else◌, List, [], ◌∷◌}
use Rattle.std.specs.Prelude.{◌++◌, length, get_or, codes, Option, None, Some, unwrap_or}
use Rattle.std.specs.{Borrow.Bor, Fmt.decimal, Str.chars, Str.Lines.lines}
use Rattle.interpolator_syntax.specs.Faults.{Answer, answer_place, fault, missing_value}
use Rattle.interpolator_syntax.specs.Nodes.{as_forest, nodes}
use Rattle.interpolator_syntax.specs.{Places.outermost, FaultTexts.answer_text}
use Rattle.interpolator.specs.Excerpts.{Excerpt, excerpt_of, gap, picture}
use Rattle.interpolator.specs.Positions.{line_at, column_at, position_text}
use Rattle.interpolator.specs.{Naming.reported_names, declared.explaining.Source.Source}
use Rattle.interpolator_pieces.specs.NodePlaces.{argument_among}

-- the sum, or the greatest `usize` if it is greater
abbrev pub usize_sum : ℕ → ℕ → ℕ
usize_sum a b = min (a + b) (2 ^ 64 - 1)

-- the bytes of a format that are marked: those of the innermost argument that has the place, or the
-- place alone
abbrev pub marked_bytes : List ℕ → ℕ → ℕ × ℕ
marked_bytes format place =
    unwrap_or (argument_among place (as_forest (nodes (outermost (chars format))))) (place, place)

-- the line of this number, from 1 on, in a text; empty if there is none
abbrev pub line_of : List ℕ → ℕ → List ℕ
line_of text number = get_or (lines text) (number - 1) []

-- the line that has a byte of a text, as it is shown: if the byte is the newline after a carriage
-- return, which `lines` cuts off, with a space in place of that
abbrev pub line_with : List ℕ → (at : ℕ) → List ℕ
line_with text at =
    let line = line_of text (line_at text at) in
    if nat_lt (length (chars line)) (column_at text at - 1) then line ++ codes " " else line

-- how many characters of the line of this number, which has `count` of them, are before a byte of
-- the text
abbrev pub before_in_line : List ℕ → (number count place : ℕ) → ℕ
before_in_line text number count place =
    if nat_lt (line_at text place) number then 0
    else (if nat_lt number (line_at text place) then count else column_at text place - 1)

-- a line of a source, which has a byte of its text, with these bytes of its format marked
abbrev pub excerpt_in : Source → (line : List ℕ) → (at : ℕ) → ℕ × ℕ → Excerpt
excerpt_in s line at marked =
    let number = line_at s.text.now at in
    excerpt_of line (column_at s.text.now at - 1)
    (before_in_line s.text.now number (length line) (usize_sum s.start marked.0))
    (before_in_line s.text.now number (length line) (usize_sum s.start marked.1))

-- what comes before the line that is shown: name, line, column and what is reported
abbrev pub head : List ℕ → (number column : ℕ) → List ℕ → List ℕ
head name number column what =
    name ++ (codes ":" ++ (position_text number column ++ (codes ": " ++ what)))

-- the number of the line that has a byte of the text
abbrev pub number_at : Source → (at : ℕ) → ℕ
number_at s at = usize_sum s.first_line (line_at s.text.now at - 1)

-- what is reported at a byte of the text, with this line
abbrev pub reported_in : Source → (line : List ℕ) → (at : ℕ) → ℕ × ℕ → List ℕ → List ℕ
reported_in s line at marked what =
    let number = number_at s at in
    head s.name.now number (column_at s.text.now at) what
    ++ (codes "\n" ++ picture number (excerpt_in s (chars line) at marked))

-- what is reported at a byte of the text, with the line that has it
abbrev pub reported_at : Source → (at : ℕ) → ℕ × ℕ → List ℕ → List ℕ
reported_at s at marked what = reported_in s (line_with s.text.now at) at marked what

-- where a place that a text names counts from: said only if the format does not begin its text
abbrev pub note_of : (start place : ℕ) → List ℕ
note_of start place =
    if start == 0 then [] else codes " (byte " ++ (decimal place ++ codes " of the format)")

-- what is reported at a byte of the format, or without a place
abbrev pub explanation : Source → Option ℕ → List ℕ → List ℕ
explanation s None what = s.name.now ++ (codes ": " ++ what)
explanation s (Some place) what =
    reported_at s (usize_sum s.start place) (marked_bytes s.format.now place)
    (what ++ note_of s.start place)

-- the explanation of an error
abbrev pub explanation_of : Source → Answer → List ℕ
explanation_of s answer = explanation s (answer_place answer) (answer_text answer)

-- the line that tells the names where a name is missing; empty if there are none
abbrev pub names_line : Source → (place : ℕ) → (name : List ℕ) → List (Bor (List ℕ)) → List ℕ
names_line s place name [] = []
names_line s place name (n ∷ ns) =
    codes "\n" ++ (gap (number_at s (usize_sum s.start place))
    ++ (codes " = " ++ reported_names name (n ∷ ns)))

-- what comes after the explanation of an error: the names, if one is missing
abbrev pub names_after : Source → Answer → List (Bor (List ℕ)) → List ℕ
names_after s (fault (missing_value name place)) names = names_line s place name names
names_after s _ names = []
