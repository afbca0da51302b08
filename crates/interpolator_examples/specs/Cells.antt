-- What a cell of a table shows: a user's own enum, which the examples use as a value.
use Rattle.std.specs.{Prelude.string_bytes, Str.chars}
use Rattle.interpolator.specs.Views.{Shown, signed_number, some_text, nothing_implemented}
use Rattle.interpolator.specs.declared.Bits.TheVariants.{B64}
use Rattle.interpolator_examples.specs.declared.cells.Cell.{Cell}
use Rattle.interpolator_examples.specs.declared.cells.Cell.TheVariants as cell

-- its name or its count, and nothing if it is absent
abbrev pub cell_shows : Cell → Shown
cell_shows (cell.Name text) = some_text (chars (string_bytes text))
cell_shows (cell.Count n) = signed_number n B64
cell_shows cell.Absent = nothing_implemented
