use Rattle.std.proofs.Common.{◌<◌, ◌≤◌, ◌-◌, ◌^◌}
use Rattle.interpolator_render.proofs.scientific.exponent_of.Given as goal

abbrev pub invariant-loop-exponent : goal.invariant-loop-exponent
invariant-loop-exponent l = (l.exponent ≤ 38) × (0 < l.exponent → 10 ^ l.exponent ≤ l.n)

abbrev pub decreases-loop-exponent : goal.decreases-loop-exponent
decreases-loop-exponent l = 38 - l.exponent
