use Rattle.catalogue.proofs.arguments.report_of_name.Goals as goal

pub returns-clause-reported : goal.returns-clause-reported
returns-clause-reported c = rw (← c.has_name.ensures, c.if-has_name.false)
    (rw (c.as_str.ensures.value, c.in_ok-what.ensures) at c.in_ok-reported.ensures.reported)
