use Rattle.catalogue.proofs.messages.made_escaped.Goals as goal

pub returns-in-Line : goal.returns-in-Line
returns-in-Line g c = rw (c.in-Line.is) c.format_by.ensures.formats

pub returns-in-Html : goal.returns-in-Html
returns-in-Html g c = rw (c.in-Html.is) c.format_by-in-Html.ensures.formats

pub returns-in-Csv : goal.returns-in-Csv
returns-in-Csv g c = rw (c.in-Csv.is) c.format_by-in-Csv.ensures.formats

pub returns-in-Json : goal.returns-in-Json
returns-in-Json g c = rw (c.in-Json.is) c.format_by-in-Json.ensures.formats

pub returns-in-Shell : goal.returns-in-Shell
returns-in-Shell g c = rw (c.in-Shell.is) c.format_by-in-Shell.ensures.formats
