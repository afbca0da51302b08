use Rattle.std.proofs.Common.{arith}
use Rattle.interpolator_render.proofs.IoWriterLemmas.{all_kept}
use Rattle.interpolator_render.proofs.io_writer.IoWriter.flush.Goals as goal

pub returns-in-Ok-clause-all : goal.returns-in-Ok-clause-all
returns-in-Ok-clause-all g c = let mid = c.hand_on.new.self in
    all_kept mid c.flush.new.self c.flush.result (grind arith)
    c.in-Ok.ensures.ok.0 c.flush.ensures.kept
