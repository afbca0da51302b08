use Rattle.interpolator_pieces.proofs.CallLemmas.{line_written, no_line}
use Rattle.interpolator.proofs.template.Template.write_line.Goals as goal

pub returns-in-Ok : goal.returns-in-Ok
returns-in-Ok g c = line_written _ _ _ _ _ _ _ c.in-Ok.ensures c.write_newline.ensures.outcome

pub returns-in-Err : goal.returns-in-Err
returns-in-Err g c = no_line _ _ _ _ _ _ c.in-Err.ensures
