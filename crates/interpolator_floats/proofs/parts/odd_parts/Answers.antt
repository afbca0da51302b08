use Rattle.std.proofs.Common.{rules}
use Rattle.interpolator_floats.proofs.PartLemmas.{zero_parts}
use Rattle.interpolator_floats.proofs.parts.odd_parts.Goals as goal

pub returns-then-parts-eq0-clause-value : goal.returns-then-parts-eq0-clause-value
returns-then-parts-eq0-clause-value c = zero_parts _ _ _ _ c.float_parts-parts.ensures.value (search rules)
