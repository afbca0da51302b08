use Rattle.std.proofs.Common.{string_bytes}
use Rattle.records.proofs.WrittenLemmas.{opening_more}
use Rattle.records.proofs.written.push_opening.Goals as goal

pub loop-field-preserved : goal.loop-field-preserved
loop-field-preserved c =
    let so_far = c.loop-field.invariant in
    let field = c.in_ok-push_field.ensures in
    opening_more c.args.separator (string_bytes c.args.out.now) (string_bytes c.loop-field.out)
    (string_bytes c.push_field.new.out) (string_bytes c.push_separator.new.out) so_far.0 field.0
    so_far.2 field.2 c.args.fields.now c.loop-field.field-index _ c.loop-field-test.true so_far.1
    field.1 c.in_ok-push_separator.ensures
