use Rattle.std.proofs.{Common.arith, Common.length-take, Math.Seq.take-add, lemmas.List.take-take}
use Rattle.interpolator_render.proofs.IoWriterLemmas.{gets_more}
use Rattle.interpolator_render.proofs.below.write_out.Goals as goal

pub loop-done-preserved : goal.loop-done-preserved
loop-done-preserved g c = grind (arith, length-take, take-take, take-add, gets_more)
