use Rattle.merge.specs.Columns.{kinds_in}
use Rattle.merge.proofs.LetterLemmas.{rows_alike}
use Rattle.merge.proofs.letters.write_letter.Goals as goal

pub a_prepared_format_is_written-requires-clause-resembles :
    goal.a_prepared_format_is_written-requires-clause-resembles
a_prepared_format_is_written-requires-clause-resembles g c =
    rows_alike c.a_view_has_a_text_by_its_kind.ensures.kind c.as_slice.result.now
    c.args.frame.sample.now (kinds_in c.args.frame.columns.now) c.requires.shown.0
    c.args.views.now (rw c.as_slice.ensures.value c.in_ok-held.ensures)
    c.requires.ready.has.same_values c.requires.shown.1
