use Rattle.std.proofs.Common.{◌≡◌, drop, false, length, take}
use Rattle.interpolator_border.specs.Tables.{Faultless, rows_ends, rows_text}
use Rattle.interpolator_border.proofs.table.put_rows.Given as goal

-- the rows so far were appended, none of them has a fault, and it is told where each ends; the ends of
-- the others are as they were
abbrev pub invariant-loop-row : goal.invariant-loop-row
invariant-loop-row l =
    (l.out.refused ≡ false)
    × (length l.ends ≡ length l.initial.ends)
    × (l.out.text
    ≡ rows_text l.line.names l.line.text (length l.table.columns.now) l.table.cells.now l.row)
    × (drop l.row l.ends ≡ drop l.row l.initial.ends)
    × (take l.row l.ends
    ≡ rows_ends l.line.names l.line.text (length l.table.columns.now) l.table.cells.now l.row)
    × Faultless l.line.names l.line.text (length l.table.columns.now) l.table.cells.now l.row
