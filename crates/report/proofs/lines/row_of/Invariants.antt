use Rattle.std.proofs.Common.{◌≡◌, map, take}
use Rattle.interpolator.specs.Slots.{slots_of}
use Rattle.report.specs.Lines.{as_value}
use Rattle.report.proofs.lines.row_of.Given as goal

abbrev pub invariant-loop-view : goal.invariant-loop-view
invariant-loop-view l = map slots_of l.row.items ≡ map as_value (take l.view-index l.views)
