use Rattle.std.proofs.{Common.arith, lemmas.Str.chars-nil}
use Rattle.interpolator_render.proofs.io_writer.IoWriter.new.Goals as goal

pub returns-clause-written : goal.returns-clause-written
returns-clause-written g c = grind (arith, chars-nil)
