use Rattle.interpolator.proofs.template.Template.write_counted.Goals as goal

pub returns-clause-written : goal.returns-clause-written
returns-clause-written g c = rw c.parsed.ensures.text at c.write_counted.ensures.written

pub returns-clause-exact : goal.returns-clause-exact
returns-clause-exact g c = rw c.parsed.ensures.text at c.write_counted.ensures.exact

pub returns-clause-within : goal.returns-clause-within
returns-clause-within g c = rw c.parsed.ensures.text at c.write_counted.ensures.within
