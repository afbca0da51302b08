-- The line and the column of a byte of a text, by the characters that begin before it.
use Rattle.std.specs.Prelude.{ℕ, not, if◌then◌else◌, ◌+◌, ◌-◌, ◌==◌, List, [], ◌∷◌, length, reverse}
use Rattle.std.specs.Prelude.{◌++◌, codes, count_by}
use Rattle.std.specs.{Char.len_utf8, Fmt.decimal, List.take_while, Str.chars}

-- the characters of a text that begin before a byte
abbrev pub begun_before : ℕ → List ℕ → List ℕ
begun_before place [] = []
begun_before place (c ∷ cs) =
    if place == 0 then [] else (c ∷ begun_before (place - len_utf8 c) cs)

-- the character that ends a line
abbrev pub line_end : ℕ
line_end = 10

-- how many lines have ended in a text
abbrev pub lines_ended : List ℕ → ℕ
lines_ended cs = count_by (λ c. c == line_end) cs

-- the characters after the last line end, read from the last one back
abbrev pub last_line : List ℕ → List ℕ
last_line cs = take_while (λ c. not (c == line_end)) (reverse cs)

-- the line of a byte of a text, from 1 on: one more than the lines that have ended before it
abbrev pub line_at : List ℕ → ℕ → ℕ
line_at text place = lines_ended (begun_before place (chars text)) + 1

-- its column, from 1 on: one more than the characters before it in its line
abbrev pub column_at : List ℕ → ℕ → ℕ
column_at text place = length (last_line (begun_before place (chars text))) + 1

-- a line and a column in bytes, as `3:17`
abbrev pub position_text : (line column : ℕ) → List ℕ
position_text line column = decimal line ++ (codes ":" ++ decimal column)
