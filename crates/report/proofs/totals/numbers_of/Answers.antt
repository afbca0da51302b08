use Rattle.report.proofs.TotalLemmas.{numbers_step}
use Rattle.report.proofs.totals.numbers_of.Goals as goal

pub loop-cell-preserved : goal.loop-cell-preserved
loop-cell-preserved c =
    numbers_step c.args.cells.now c.loop-cell.cell-index _ _ _ c.loop-cell-test.true
    c.loop-cell.invariant c.in_ok-push_number.ensures
