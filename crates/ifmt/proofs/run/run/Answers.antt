use Rattle.ifmt.proofs.ReportLemmas.{runs}
use Rattle.ifmt.proofs.run.run.Goals as goal

pub returns : goal.returns
returns g c = runs _ _ _ _ _ _ _ c.format.ensures.formats c.report.ensures
