use Rattle.std.proofs.Common.{◌≡◌, map, take}
use Rattle.interpolator_render.specs.Views.{shown_by}
use Rattle.interpolator_table.specs.Cells.{cell_shows}
use Rattle.interpolator_table.proofs.table.views_of.Given as goal

abbrev pub invariant-loop-cell : goal.invariant-loop-cell
invariant-loop-cell l =
    map shown_by l.views.items ≡ map cell_shows (take l.cell-index l.cells)
