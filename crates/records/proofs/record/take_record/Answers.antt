use Rattle.std.proofs.Common.{map}
use Rattle.records.specs.Spellings.{text_of}
use Rattle.records.proofs.RecordLemmas.{last_field, next_field, next_text}
use Rattle.records.proofs.record.take_record.Goals as goal

pub fields-preserved : goal.fields-preserved
fields-preserved c =
    let opened = c.fields.invariant.1 in
    let separator = rw c.byte.ensures at c.in-Some.ensures.cases in (
      next_text c.args.separator c.args.text.now opened.0 c.fields.rest.now
          (text_of c.in_ok-field.field) c.in_ok-field.tail.now
          (map text_of c.fields.fields.items) (map text_of c.push.new.fields.items) opened.1
          opened.2 c.in_ok-field.ensures c.in_ok-push.ensures c.in-Some.next.now separator
          c.fields.invariant.0,
      next_field c.args.separator c.args.text.now opened.0 c.fields.rest.now
          (text_of c.in_ok-field.field) c.in_ok-field.tail.now
          (map text_of c.fields.fields.items) (map text_of c.push.new.fields.items) opened.1
          opened.2 c.in_ok-field.ensures c.in_ok-push.ensures c.in-Some.next.now separator,
    )

pub returns-in-None : goal.returns-in-None
returns-in-None c =
    let opened = c.fields.invariant.1 in
    last_field c.args.separator c.args.text.now opened.0 c.fields.rest.now
    (text_of c.in_ok-field.field) c.in_ok-field.tail.now
    (map text_of c.fields.fields.items) (map text_of c.push.new.fields.items) opened.1
    opened.2 c.in_ok-field.ensures c.in_ok-push.ensures c.after_line.result.now
    (c.after_line.ensures c.args.separator c.in_ok-field.ensures.3
    (rw c.byte.ensures at c.in-None.ensures.cases))
