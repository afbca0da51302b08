use Rattle.std.proofs.Common.{◌≡◌, ◌++◌, ◌≤◌, map, length, take}
use Rattle.interpolator_render.specs.Views.{shown_by}
use Rattle.interpolator_table.specs.Cells.{cell_shows}
use Rattle.interpolator_table.proofs.table.push_all.Given as goal

abbrev pub invariant-loop-view : goal.invariant-loop-view
invariant-loop-view l = record {
  longer : length l.fn.cells.items ≤ length l.cells.items;
  kept : take (length l.fn.cells.items) l.cells.items ≡ l.fn.cells.items;
  pushed : map cell_shows l.cells.items ≡ map cell_shows l.fn.cells.items ++ map shown_by (take l.view-index l.views);
}
