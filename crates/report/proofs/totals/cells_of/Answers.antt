use Rattle.report.proofs.TotalLemmas.{cells_step}
use Rattle.report.proofs.totals.cells_of.Goals as goal

pub loop-entry-preserved : goal.loop-entry-preserved
loop-entry-preserved c =
    cells_step c.args.entries.now c.loop-entry.entry-index _ c.loop-entry.cells.items _
    c.cell_of.result c.loop-entry-test.true c.loop-entry.invariant c.cell_of.ensures
    c.in_ok-push.ensures.items
