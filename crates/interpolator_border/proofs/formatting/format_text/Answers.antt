use Rattle.std.proofs.Common.{Err, Ok, ap, subst}
use Rattle.std.proofs.lemmas.Str.{is_utf8-from_IsUtf8}
use Rattle.interpolator_eval.specs.Escaping.{shows_by}
use Rattle.interpolator_border.specs.{Fields.field_shows, Measures.TellsWhy, Measures.measured}
use Rattle.interpolator_border.proofs.AnswerLemmas.{formats}
use Rattle.interpolator_border.proofs.formatting.format_text.Goals as goal

pub returns-in-Ok-write_row : goal.returns-in-Ok-write_row
returns-in-Ok-write_row g c =
    formats (shows_by g.E.Escaper.shown field_shows) c.args.row.fields.now c.args.row.items.now
    c.args.text.now (measured c.new-out.result) (measured c.write_row.new.out) (Ok tt)
    c.args.room.now c.reported_text.new.room c.reported_text.result (ap (λ w. w.text) c.new-out.ensures)
    (is_utf8-from_IsUtf8 c.args.text.now c.utf8.text) c.in-Ok-write_row.ensures c.reported_text.ensures

pub returns : goal.returns
returns g c =
    formats (shows_by g.E.Escaper.shown field_shows) c.args.row.fields.now c.args.row.items.now
    c.args.text.now (measured c.new-out.result) (measured c.write_row.new.out)
    (Err c.in-Err.failure) c.args.room.now c.reported_why.new.room c.reported_why.result
    (ap (λ w. w.text) c.new-out.ensures) (is_utf8-from_IsUtf8 c.args.text.now c.utf8.text)
    c.in-Err.ensures
    (subst (λ refused. TellsWhy refused c.in-Err.failure c.args.room.now c.reported_why.new.room
    c.reported_why.result) c.refused.ensures c.reported_why.ensures)
