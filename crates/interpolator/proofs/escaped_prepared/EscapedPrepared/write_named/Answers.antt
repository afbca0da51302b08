use Rattle.interpolator.proofs.escaped_prepared.EscapedPrepared.write_named.Goals as goal

pub returns-in-Line-clause-outcome : goal.returns-in-Line-clause-outcome
returns-in-Line-clause-outcome g c = rw (← c.self.view_is, c.in-Line.is) c.write_by.ensures.outcome

pub returns-in-Html-clause-outcome : goal.returns-in-Html-clause-outcome
returns-in-Html-clause-outcome g c = rw (← c.self.view_is, c.in-Html.is) c.write_by-in-Html.ensures.outcome

pub returns-in-Csv-clause-outcome : goal.returns-in-Csv-clause-outcome
returns-in-Csv-clause-outcome g c = rw (← c.self.view_is, c.in-Csv.is) c.write_by-in-Csv.ensures.outcome

pub returns-in-Json-clause-outcome : goal.returns-in-Json-clause-outcome
returns-in-Json-clause-outcome g c = rw (← c.self.view_is, c.in-Json.is) c.write_by-in-Json.ensures.outcome

pub returns-in-Shell-clause-outcome : goal.returns-in-Shell-clause-outcome
returns-in-Shell-clause-outcome g c = rw (← c.self.view_is, c.in-Shell.is) c.write_by-in-Shell.ensures.outcome
