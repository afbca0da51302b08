-- A part of an escaped text, laid before it is written.
use Rattle.std.specs.Prelude.{◌≡◌, ℕ, ◌+◌, ◌≤◌, List, ◌++◌, take, IsUtf8}
use Rattle.interpolator_escapes.specs.declared.escape.Escape.{Escape}
use Rattle.interpolator_escapes.specs.declared.escape.Escape.TheVariants.{Line, Html, Csv, Json}
use Rattle.interpolator_escapes.specs.declared.escape.Escape.TheVariants.{Shell}
use Rattle.interpolator_render.specs.Writers.{Written, Appends, byte_count}

-- a row of 320 bytes begins with a text of so many
pub record HoldsText (row : List ℕ) (filled : ℕ) : Type 0 where
  pub within : filled ≤ 320
  pub utf8 : IsUtf8 (take filled row)

-- so many bytes more have a place behind a text
abbrev pub HasPlace : List ℕ → ℕ → Type 0
HasPlace text count = byte_count text + count ≤ 320

-- a beginning of a text was written, and so much of it is left
pub record Moves (old : Written) (text left : List ℕ) (new : Written) : Type 0 where
  pub moved : List ℕ
  pub parts : text ≡ moved ++ left
  pub appended : Appends old moved new

-- each escape by a number
abbrev pub way_of : Escape → ℕ
way_of Line = 0
way_of Html = 1
way_of Csv = 2
way_of Json = 3
way_of Shell = 4
