use Rattle.catalogue.proofs.translations.report_of_twice.Goals as goal

pub returns-clause-reported : goal.returns-clause-reported
returns-clause-reported c = rw c.in-Some.is (
  c.of-line.result.line,
  rw (c.as_str.ensures.value, c.in_ok-what.ensures.ok) at c.in_ok-reported.ensures.reported,
)
