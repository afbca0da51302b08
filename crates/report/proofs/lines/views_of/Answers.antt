use Rattle.std.proofs.Common.{arith}
use Rattle.std.specs.Prelude.{string_bytes}
use Rattle.report.proofs.LineLemmas.{shown_step}
use Rattle.report.proofs.lines.views_of.Goals as goal

pub loop-at-preserved : goal.loop-at-preserved
loop-at-preserved c =
    shown_step (λ column. column.is_numeric) string_bytes c.args.columns.now c.args.entries.now
    c.loop-at.at _ c.index-entries-at.result c.loop-at.views.items _ c.view_of.result
    (omega (arith, c.loop-at-test.true, c.requires)) c.loop-at-test.true c.index-entries-at.is
    c.loop-at.invariant (rw c.as_str.ensures.value at c.view_of.ensures)
    c.in_ok-push.ensures.items
