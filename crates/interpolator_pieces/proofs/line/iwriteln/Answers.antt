use Rattle.interpolator_pieces.proofs.CallLemmas.{line_written, no_line, text_written}
use Rattle.interpolator_pieces.proofs.line.iwriteln.Goals as goal

pub returns-in-Ok : goal.returns-in-Ok
returns-in-Ok g c =
    line_written _ _ _ _ _ _ _ (text_written _ _ _ _ _ _ c.utf8.format c.in-Ok.ensures.outcome)
    c.write_newline.ensures.outcome

pub returns-in-Err : goal.returns-in-Err
returns-in-Err g c =
    no_line _ _ _ _ _ _ (text_written _ _ _ _ _ _ c.utf8.format c.in-Err.ensures.outcome)
