use Rattle.interpolator_table.proofs.TableLemmas.{cut_append, row_appended, row_longer}
use Rattle.interpolator_table.proofs.table.push_row.Goals as goal

pub returns-in-Ok-clause-cut : goal.returns-in-Ok-clause-cut
returns-in-Ok-clause-cut c =
    rw c.in-Ok.ensures.ended
    (cut_append 0 _ _ c.args.ends.now.items c.requires.cut
    (row_longer c.args.cells.now.items _ _ c.in-Ok.ensures.pushed))

pub returns-in-Ok-clause-pushed : goal.returns-in-Ok-clause-pushed
returns-in-Ok-clause-pushed c =
    rw c.in-Ok.ensures.ended
    (row_appended c.args.cells.now.items _ c.args.ends.now.items _ c.requires.cut
    c.in-Ok.ensures.pushed)
