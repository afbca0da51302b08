-- The form of a list: which of its items are written, how each is, and what is between two.
use Rattle.std.specs.Prelude.{ℕ, Option, None}
use Rattle.interpolator_syntax.specs.Groups.{Group, group_if}
use Rattle.interpolator_syntax.specs.Readers.{Reader, ◌>>=◌, give}
use Rattle.interpolator_syntax.specs.{Ranges.range_at, declared.range.Range.Range}

-- a range, an item format and a join, each of which may be absent
pub record ListRequest : Type 0 where
  pub range : Option Range
  pub item : Option Group
  pub join : Option Group

-- all items, each displayed plainly, and nothing between two of them
abbrev pub plain_list : ListRequest
plain_list = record { range = None; item = None; join = None }

-- the form of a list, after the letter `i`, in the argument that begins at `start`
unfoldable pub list_at : (start : ℕ) → Reader ListRequest
list_at start =
    do
      range ← range_at start
      item ← group_if start
      join ← group_if start
      give (record { range = range; item = item; join = join })
