use Rattle.std.proofs.Common.{take}
use Rattle.std.specs.Str.{chars}
use Rattle.report.specs.Lines.{PutsLines}
use Rattle.report.proofs.lines.write_lines.Given as goal

abbrev pub invariant-loop-record : goal.invariant-loop-record
invariant-loop-record g l = PutsLines l.line (chars l.end) l.frame.columns.now
    (take l.record-index l.records) (g.W.TextWrite.written l.initial.out).text
    (g.W.TextWrite.written l.out).text
