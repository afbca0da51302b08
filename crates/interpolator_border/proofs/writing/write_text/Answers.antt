use Rattle.std.proofs.Common.{◌≡◌, ◌≤◌, length, rules, subst}
use Rattle.std.proofs.lemmas.Str.{is_utf8-from_IsUtf8}
use Rattle.interpolator_render.specs.Bounds.{bounded_writer}
use Rattle.interpolator_border.proofs.AnswerLemmas.{bound_kept, is_fresh, row_keeps_origin, writes}
use Rattle.interpolator_border.proofs.writing.write_text.Goals as goal

pub returns : goal.returns
returns c =
    let bound : c.in-Ok.out.most ≡ length c.args.room.now = search rules in
    let row = rw (is_fresh c.in-Ok.out _ _ c.in-Ok.ensures.written c.in-Ok.ensures.most bound)
    at c.write_row-written.ensures in
    let kept = bound_kept c.write_row-written.new.out (length c.args.room.now)
    (row_keeps_origin _ _ _ _ _ _ _ _ row) in
    let fits : length c.as_str-made.result.now ≤ length c.args.room.now =
    subst (λ bytes. length c.as_str-made.result.now ≤ bytes) kept c.as_str-made.ensures.within in
    writes (bounded_writer c.write_row-written.new.out) c.as_str-made.result.now c.args.room.now
    c.put.new.room c.args.sentence.now c.reported_written.new.sentence c.reported_written.result
    c.as_str-made.ensures.text c.as_str-made.utf8 fits
    (rw c.as_bytes.ensures.value at c.put.ensures) c.args.row.fields.now c.args.row.items.now
    c.args.text.now c.write_row-written.result (is_utf8-from_IsUtf8 c.args.text.now c.utf8.text) row
    (rw c.refused.ensures at c.reported_written.ensures)
