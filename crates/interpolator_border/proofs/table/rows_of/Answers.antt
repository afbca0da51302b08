use Rattle.std.proofs.Common.{inl, length, refl}
use Rattle.interpolator_border.proofs.TableLemmas.{all_rows, row_fails}
use Rattle.interpolator_border.proofs.table.rows_of.Goals as goal

pub returns-in-Ok : goal.returns-in-Ok
returns-in-Ok c =
    let made = c.in-Ok.ensures in
    inl (all_rows c.args.line.now.names c.args.line.now.text (length c.args.table.columns.now)
    c.args.table.cells.now (length c.args.ends.now) _ c.put_rows.new.ends c.as_str-text.result.now
    c.args.room.now c.put.new.room c.well.result made.0 made.1 made.2 c.as_str-text.ensures
    c.as_str-text.utf8 (rw c.as_bytes.ensures.value at c.put.ensures) c.well.ensures)

pub returns : goal.returns
returns c =
    row_fails c.args.line.now.names c.args.line.now.text (length c.args.table.columns.now)
    c.args.table.cells.now c.in-Err.wrong c.args.ends.now c.put_rows.new.ends c.args.room.now
    c.reported_fault.new.room c.reported_fault.result _ c.in-Err.ensures c.reported_fault.ensures.fault refl
