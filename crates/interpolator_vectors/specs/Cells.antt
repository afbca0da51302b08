-- What a value of a row's context shows.
use Rattle.std.specs.{Prelude.string_bytes, Str.chars}
use Rattle.interpolator_render.specs.Views.{Shown, plain_text, nothing_implemented, failure}
use Rattle.interpolator.specs.OwnedViews.{owned_shows}
use Rattle.interpolator_vectors.specs.declared.cells.Cell.{Cell}
use Rattle.interpolator_vectors.specs.declared.cells.Cell.TheVariants as cell

-- what it contains
abbrev pub cell_shows : Cell → Shown
cell_shows (cell.Owned value) = owned_shows value
cell_shows (cell.Plain text) = plain_text (chars (string_bytes text))
cell_shows cell.NotImplemented = nothing_implemented
cell_shows cell.Failed = failure
