use Rattle.interpolator_digits.proofs.ExponentLemmas.{exponent_bounds_of}
use Rattle.interpolator_render.proofs.laws.exponent_bounds.Goals as goal

pub returns-clause-some : goal.returns-clause-some
returns-clause-some c = exponent_bounds_of
