-- The lines on which a text stands. Texts are bytes.
use Rattle.std.specs.Prelude.{ℕ, Bool, not, ◌==◌, ◌&&◌, ◌||◌, ◌+◌, ◌-◌, nat_lt, List, [], ◌∷◌, ◌++◌}
use Rattle.std.specs.Prelude.{if◌then◌else◌, length}
use Rattle.std.specs.{List.slice_index, Str.trim, Str.trim_start}
use Rattle.folds.specs.declared.lines.Spot.{Spot as LentSpot}

-- a line has only white space
abbrev pub is_blank : List ℕ → Bool
is_blank line = length (trim line) == 0

-- a line begins with a blank or a tab
abbrev pub is_indented : List ℕ → Bool
is_indented line = slice_index line 0 == 32 || slice_index line 0 == 9

-- a line goes on with the text before it
abbrev pub goes_on : List ℕ → Bool
goes_on line = is_indented line && not (is_blank line)

-- a line ends no text
abbrev pub is_more : List ℕ → Bool
is_more line = is_indented line || is_blank line

-- what a line after the first writes: a line end, and its text without the white space before it
abbrev pub part_of : List ℕ → List ℕ
part_of line = if is_blank line then [] else 10 ∷ trim_start line

-- what lines after the first write, up to one that ends the text
abbrev pub folded : List (List ℕ) → List ℕ
folded [] = []
folded (line ∷ rest) = if is_more line then part_of line ++ folded rest else []

-- where a byte of what lines write stands: how many lines after the first, the line's text, the
-- byte of it at which the part begins that it writes, and the byte of that part
pub record Spot : Type 0 where
  pub index : ℕ
  pub text : List ℕ
  pub begin : ℕ
  pub byte : ℕ

-- borrows aside
abbrev pub as_spot : LentSpot → Spot
as_spot spot =
    record { index = spot.index; text = spot.text.now; begin = spot.begin; byte = spot.byte }

-- a spot is past the end of its line
abbrev pub passes : Spot → Bool
passes spot = nat_lt (length spot.text - spot.begin) spot.byte

-- it is on the next line, or a later one
abbrev pub is_further : Spot → (line : List ℕ) → Bool
is_further spot line = passes spot && is_more line

-- the same byte on the next line, which a blank line is not
abbrev pub next_spot : Spot → (index : ℕ) → (line : List ℕ) → Spot
next_spot spot index line =
    if is_blank line then spot else record {
      index = index;
      text = line;
      begin = length line - length (trim_start line);
      byte = spot.byte - (length spot.text - spot.begin) - 1;
    }

-- where it stands on some lines, of which the first has this index
abbrev pub spot_from : (index : ℕ) → Spot → List (List ℕ) → Spot
spot_from index spot [] = spot
spot_from index spot (line ∷ rest) =
    if is_further spot line then spot_from (index + 1) (next_spot spot index line) rest else spot

-- where a byte stands of what lines write, of which the first begins at a byte of its line
abbrev pub spot_of : (text : List ℕ) → (begin : ℕ) → List (List ℕ) → (byte : ℕ) → Spot
spot_of text begin rest byte =
    spot_from 1 (record { index = 0; text = text; begin = begin; byte = byte }) rest
