use Rattle.interpolator_table.proofs.TableLemmas.{rows_whole}
use Rattle.interpolator_table.proofs.table.Table.views.Goals as goal

pub returns-clause-views : goal.returns-clause-views
returns-clause-views c =
    rw (← c.self.view_is)
    (rw (rows_whole c.self.inside.cells.items c.self.inside.ends.items c.self.invariant)
    (rw (← c.deref.ensures.value) c.views_of.ensures.views))
