use Rattle.std.proofs.lemmas.Result.{IfOk-weaker}
use Rattle.interpolator_table.proofs.TableLemmas.{lends_rows}
use Rattle.interpolator_table.proofs.table.Table.rows.Goals as goal

pub returns-clause-rows : goal.returns-clause-rows
returns-clause-rows c views shows filled =
    rw (← c.self.view_is)
    (IfOk-weaker c.rows_of.result _ _
    (λ rows made. lends_rows c.self.inside.cells.items c.self.inside.ends.items views _ _
    c.self.invariant (rw c.self.view_is shows) filled
    (rw (← c.deref.ensures.value) made))
    c.rows_of.ensures.rows)
