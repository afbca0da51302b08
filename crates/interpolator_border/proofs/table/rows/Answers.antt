use Rattle.std.proofs.Common.{refl}
use Rattle.interpolator_border.proofs.TableLemmas.{columns_fail, rows_reported}
use Rattle.interpolator_border.proofs.table.rows.Goals as goal

pub returns-in-Ok-buffer_with : goal.returns-in-Ok-buffer_with
returns-in-Ok-buffer_with c =
    rows_reported c.args.table.columns.now c.args.table.cells.now c.args.format.now c.in-Ok.line c.args.ends.now
    c.rows_of.new.ends c.args.room.now c.rows_of.new.room c.rows_of.result c.in-Ok.ensures.0
    c.in-Ok.ensures.1 c.rows_of.ensures

pub returns-in-Err : goal.returns-in-Err
returns-in-Err c =
    columns_fail c.args.table.columns.now c.args.table.cells.now c.args.format.now c.args.ends.now _
    c.args.room.now c.reported_failure-in-Err.new.room c.reported_failure-in-Err.result refl c.in-Err.failure
    c.in-Err.ensures
    c.reported_failure-in-Err.ensures.failure
