use Rattle.std.proofs.Common.{◌≡◌, take}
use Rattle.report.specs.Totals.{numbers_in}
use Rattle.report.proofs.totals.numbers_of.Given as goal

-- the numbers of the cells so far
abbrev pub invariant-loop-cell : goal.invariant-loop-cell
invariant-loop-cell l = l.numbers.items ≡ numbers_in (take l.cell-index l.cells)
