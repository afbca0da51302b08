use Rattle.std.proofs.Common.{◌≡◌, map, take}
use Rattle.std.specs.Prelude.{string_bytes}
use Rattle.report.specs.Lines.{entries_of}
use Rattle.report.proofs.lines.entries_of.Given as goal

abbrev pub invariant-loop-column : goal.invariant-loop-column
invariant-loop-column l =
    map string_bytes l.entries.items ≡ entries_of (take l.column-index l.columns) l.record
