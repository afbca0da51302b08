use Rattle.catalogue.proofs.line_faults.report_of_message.Goals as goal

pub returns-in-Broken-clause-reported : goal.returns-in-Broken-clause-reported
returns-in-Broken-clause-reported c = rw c.in-Broken.is c.reported_at.ensures.reported
