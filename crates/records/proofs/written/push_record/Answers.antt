use Rattle.std.proofs.Common.{string_bytes}
use Rattle.records.proofs.WrittenLemmas.{line_written}
use Rattle.records.proofs.written.push_record.Goals as goal

pub returns : goal.returns
returns c =
    let opening = c.in_ok-push_opening.ensures in
    let field = c.in_ok-push_last.ensures in
    line_written c.args.separator (string_bytes c.args.out.now)
    (string_bytes c.push_opening.new.out) (string_bytes c.push_last.new.out)
    (string_bytes c.push_str.new.self) opening.0 field.0 opening.2 field.2 c.args.fields.now
    c.in-Some.others.now c.in-Some.last.now c.is_empty.result c.in-Some.ensures.cases.0 opening.1
    field.1 c.is_empty.ensures field.3 c.in_ok-push_str.ensures.bytes
