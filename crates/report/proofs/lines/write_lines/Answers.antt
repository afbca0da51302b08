use Rattle.std.specs.Str.{chars}
use Rattle.report.proofs.LineLemmas.{lines_step}
use Rattle.report.proofs.lines.write_lines.Goals as goal

pub loop-record-preserved : goal.loop-record-preserved
loop-record-preserved g c =
    lines_step c.args.line.now (chars c.args.end.now) c.args.frame.columns.now c.args.records.now
    c.loop-record.record-index c.record-item.result (g.W.TextWrite.written c.args.out.now).text
    (g.W.TextWrite.written c.loop-record.out).text
    (g.W.TextWrite.written c.write_whole.new.out).text c.loop-record-test.true c.record-item.is
    c.loop-record.invariant c.in_ok-write_whole.ensures
