use Rattle.interpolator_syntax.specs.Places.{outermost}
use Rattle.std.specs.Str.{chars}
use Rattle.interpolator_escapes.specs.RecordFormats.{after_record}
use Rattle.interpolator.specs.contracts.record_template.RecordTemplate as RecordTemplate
use Rattle.interpolator.proofs.RecordPlaceLemmas.{stands, reported_within}
use Rattle.interpolator.proofs.template.Template.as_record.Goals as goal

pub invariant_of-result : goal.invariant_of-result
invariant_of-result c =
    stands (after_record (outermost (chars c.args.self))) c.in-Ok.field-0
    (rw c.text.ensures.text at c.in-Ok.ensures)

pub returns-in-Ok-clause-stand : goal.returns-in-Ok-clause-stand
returns-in-Ok-clause-stand c =
    stands (after_record (outermost (chars c.args.self))) c.in-Ok.field-0
    (rw c.text.ensures.text at c.in-Ok.ensures)

pub returns-in-Err-clause-within : goal.returns-in-Err-clause-within
returns-in-Err-clause-within c =
    reported_within RecordTemplate.the_row.Denot c.args.self
    (rw c.text.ensures.text at c.text.utf8) c.in-Err.error
    (rw c.text.ensures.text at c.in-Err.ensures)
