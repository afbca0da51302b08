use Rattle.std.proofs.{Common.arith, lemmas.Str.IsCharBoundary-start}
use Rattle.interpolator_render.proofs.bounded.append_beginning.Goals as goal

pub returns-in-Err-clause-boundary : goal.returns-in-Err-clause-boundary
returns-in-Err-clause-boundary c = grind (arith, IsCharBoundary-start)
