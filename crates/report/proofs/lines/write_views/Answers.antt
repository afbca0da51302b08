use Rattle.report.specs.Lines.{kinds_in}
use Rattle.report.proofs.LineLemmas.{rows_alike, same_lengths}
use Rattle.report.proofs.lines.write_views.Goals as goal

pub a_prepared_format_is_written-requires-clause-resembles :
    goal.a_prepared_format_is_written-requires-clause-resembles
a_prepared_format_is_written-requires-clause-resembles g c =
    rows_alike c.a_view_has_a_text_by_its_kind.ensures.kind c.as_slice.result.now
    c.args.frame.sample.now c.args.line.now.names (kinds_in c.args.frame.columns.now)
    c.requires.shown.0 c.args.views.now (rw c.as_slice.ensures.value c.in_ok-held.ensures)
    c.requires.ready.has.same_values
    (rw c.requires.names (same_lengths c.args.frame.columns.now)) c.requires.shown.1
