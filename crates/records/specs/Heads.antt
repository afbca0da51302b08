-- The head and the end of a text, which belong to no record.
use Rattle.std.specs.Prelude.{◌≡◌, ◌≢◌, ◌⊎◌, ◌==◌, ⊤, ◌≤◌, ℕ, List, [], ◌∷◌, ◌++◌, length, Option}
use Rattle.std.specs.Prelude.{None, Some}
use Rattle.std.specs.List.{after_first}
use Rattle.records.specs.{Marks.carriage_return, Marks.line_feed, Separators.first_line}
use Rattle.records.specs.{Separators.named_in, Tables.At, Tables.Holds}
use Rattle.records.specs.{declared.separator.Separator.Separator, declared.table.Table.Table}

-- the byte order mark
abbrev pub mark : List ℕ
mark = 0xEF ∷ 0xBB ∷ 0xBF ∷ []

-- a text without the mark at its head, if it has one
abbrev pub IsUnmarked : (text rest : List ℕ) → Type 0
IsUnmarked text rest =
    (text ≡ mark ++ rest) ⊎ (((more : List ℕ) → text ≢ mark ++ more) × (rest ≡ text))

-- the beginning of a text; or its second line, if the first names a separator
abbrev pub below : List ℕ → Option Separator → At
below text None = record { line = 1; text = text }
below text (Some separator) =
    record { line = 2; text = after_first (λ b. b == line_feed) text }

-- where the records of a text begin
abbrev pub first_record : List ℕ → At
first_record text = below text (named_in (first_line text))

-- a text begins with a line feed
abbrev pub FeedsFirst : List ℕ → Type 0
FeedsFirst [] = ⊥
FeedsFirst (b ∷ bs) = b ≡ line_feed

-- a text is line ends alone: each byte is a line feed, or a carriage return before one
abbrev pub AreLineEnds : List ℕ → Type 0
AreLineEnds [] = ⊤
AreLineEnds (b ∷ bs) =
    ((b ≡ line_feed) ⊎ ((b ≡ carriage_return) × FeedsFirst bs)) × AreLineEnds bs

-- a text without its longest end that is line ends alone
pub record IsEnded (text kept : List ℕ) : Type 0 where
  pub end : List ℕ
  pub is : text ≡ kept ++ end
  pub line_ends : AreLineEnds end
  pub longest : (front back : List ℕ) → text ≡ front ++ back → AreLineEnds back
      → length kept ≤ length front

-- a reader of a text begins behind the mark at its head and below a first line that names a
-- separator, and stops before the line ends at its end
pub record Starts (text : List ℕ) (from : At) : Type 0 where
  pub rest : List ℕ
  pub unmarked : IsUnmarked text rest
  pub ended : IsEnded (first_record rest).text from.text
  pub line : from.line ≡ (first_record rest).line

-- a table holds the records and faults of a text, from its beginning to its end
abbrev pub HoldsTable : Separator → List ℕ → Table → Type 0
HoldsTable separator text table = (start : At) × Starts text start
    × Holds separator start table.records.items table.faults.items
