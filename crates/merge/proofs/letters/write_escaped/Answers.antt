use Rattle.merge.proofs.letters.write_escaped.Goals as goal

pub returns-in-Line : goal.returns-in-Line
returns-in-Line g c = rw (c.in-Line.is) c.write_by.ensures.outcome

pub returns-in-Html : goal.returns-in-Html
returns-in-Html g c = rw (c.in-Html.is) c.write_by-in-Html.ensures.outcome

pub returns-in-Csv : goal.returns-in-Csv
returns-in-Csv g c = rw (c.in-Csv.is) c.write_by-in-Csv.ensures.outcome

pub returns-in-Json : goal.returns-in-Json
returns-in-Json g c = rw (c.in-Json.is) c.write_by-in-Json.ensures.outcome

pub returns-in-Shell : goal.returns-in-Shell
returns-in-Shell g c = rw (c.in-Shell.is) c.write_by-in-Shell.ensures.outcome
