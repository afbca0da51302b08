use Rattle.std.proofs.Common.{◌∙◌, sym}
use Rattle.records.proofs.FieldLemmas.{quoted_broken, quoted_field}
use Rattle.records.specs.Spellings.{text_of}
use Rattle.records.proofs.take.take_field.Goals as goal

pub returns-then-ends_field : goal.returns-then-ends_field
returns-then-ends_field c =
    let front = c.skip_blanks-rest.ensures.blanks in
    let back = c.skip_blanks-tail.ensures.blanks in
    quoted_field c.args.separator c.args.text.now front.0 c.skip_blanks-rest.result.now
    c.in-Some.inner.now (text_of c.in-Ok-Some.field) c.in-Ok-Some.after.now back.0
    c.skip_blanks-tail.result.now front.2 front.1 c.in-Some.ensures.cases
    (rw c.in-Ok-Some.field-0-is at c.in-Ok-Some.ensures) back.2 back.1
    (sym c.ends_field.ensures ∙ c.if-ends_field.true)

pub returns-else-ends_field : goal.returns-else-ends_field
returns-else-ends_field c =
    let front = c.skip_blanks-rest.ensures.blanks in
    let back = c.skip_blanks-tail.ensures.blanks in
    rw c.problem_at.ensures
    (quoted_broken c.args.separator c.args.text.now front.0 c.skip_blanks-rest.result.now
    c.in-Some.inner.now (text_of c.in-Ok-Some.field) c.in-Ok-Some.after.now back.0
    c.skip_blanks-tail.result.now front.2 front.1 c.in-Some.ensures.cases
    (rw c.in-Ok-Some.field-0-is at c.in-Ok-Some.ensures) back.2 back.1
    (sym c.ends_field.ensures ∙ c.if-ends_field.false) c.skip_blanks-tail.ensures.all)
