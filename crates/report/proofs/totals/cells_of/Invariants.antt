use Rattle.std.proofs.Common.{map, take}
use Rattle.report.specs.Totals.{AreCells}
use Rattle.report.proofs.totals.cells_of.Given as goal

-- what the entries so far are
abbrev pub invariant-loop-entry : goal.invariant-loop-entry
invariant-loop-entry l =
    AreCells (map (λ x. x.now) (take l.entry-index l.entries)) l.cells.items
