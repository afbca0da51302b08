use Rattle.std.proofs.Common.{length}
use Rattle.interpolator_pieces.proofs.LineLemmas.{line_done, line_fault, newline_place}
use Rattle.interpolator_prepared.proofs.prepared.Prepared.write_named_line.Goals as goal

pub returns-in-Ok-clause-outcome : goal.returns-in-Ok-clause-outcome
returns-in-Ok-clause-outcome g c =
    line_done _ _ _ _ _ c.in-Ok.ensures.outcome c.write_newline.ensures.outcome

pub returns-in-Ok-clause-place : goal.returns-in-Ok-clause-place
returns-in-Ok-clause-place g c =
    newline_place (length c.args.self.now.text) _ _ _ c.write_newline.ensures.outcome

pub returns-in-Err-clause-outcome : goal.returns-in-Err-clause-outcome
returns-in-Err-clause-outcome g c = line_fault _ _ _ _ c.in-Err.ensures.outcome
