use Rattle.std.proofs.Common.{arith}
use Rattle.interpolator_render.proofs.ScientificLemmas.{exponent_found}
use Rattle.interpolator_render.proofs.scientific.exponent_of.Goals as goal

pub returns-else-power-n-clause-value : goal.returns-else-power-n-clause-value
returns-else-power-n-clause-value c = exponent_found c.args.n c.loop-exponent.exponent
    c.loop-exponent.invariant.1 (omega arith)
