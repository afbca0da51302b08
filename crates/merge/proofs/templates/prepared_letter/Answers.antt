use Rattle.std.proofs.Common.{rules}
use Rattle.merge.proofs.templates.prepared_letter.Goals as goal

pub returns : goal.returns
returns c = record {
  sample = c.args.frame.sample.now;
  has = c.requires;
  all = rw (c.in_ok-sample.ensures.map, c.in_ok-template.ensures.template) at
      c.in_ok-faults.ensures.all;
  some = search rules;
}
