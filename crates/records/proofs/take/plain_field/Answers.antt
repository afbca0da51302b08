use Rattle.std.proofs.Common.{◌∙◌, sym}
use Rattle.records.proofs.FieldLemmas.{plain_broken}
use Rattle.records.proofs.take.plain_field.Goals as goal

pub returns : goal.returns
returns c = (
  c.split_plain.result.0.now,
  c.split_plain.ensures.whole,
  rw c.problem_at.ensures (plain_broken c.args.separator c.args.text.now
      c.split_plain.result.0.now c.split_plain.result.1.now c.requires
      c.split_plain.ensures.whole c.split_plain.ensures.plain c.split_plain.ensures.stopped
      (sym c.ends_field.ensures ∙ c.if-ends_field.false)),
)
