use Rattle.std.specs.Io.KnownBytes.{Keeps}
use Rattle.interpolator_render.proofs.below.write_some.Given as goal

abbrev pub invariant-loop-try : goal.invariant-loop-try
invariant-loop-try g l = Keeps (g.W.Write.contents l.initial.to) (g.W.Write.contents l.to)
