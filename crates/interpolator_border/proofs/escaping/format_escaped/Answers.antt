use Rattle.interpolator_border.proofs.escaping.format_escaped.Goals as goal

pub returns-in-Line : goal.returns-in-Line
returns-in-Line c = rw c.in-Line.is c.format_text.ensures

pub returns-in-Html : goal.returns-in-Html
returns-in-Html c = rw c.in-Html.is c.format_text-in-Html.ensures

pub returns-in-Csv : goal.returns-in-Csv
returns-in-Csv c = rw c.in-Csv.is c.format_text-in-Csv.ensures

pub returns-in-Json : goal.returns-in-Json
returns-in-Json c = rw c.in-Json.is c.format_text-in-Json.ensures

pub returns-in-Shell : goal.returns-in-Shell
returns-in-Shell c = rw c.in-Shell.is c.format_text-in-Shell.ensures
