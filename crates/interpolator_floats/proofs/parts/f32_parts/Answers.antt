use Rattle.std.proofs.Common.{rules, arith}
use Rattle.std.specs.Bool.{passes}
use Rattle.interpolator_floats.proofs.PartLemmas.{finite_number}
use Rattle.interpolator_floats.proofs.Part32Lemmas.{below_infinity, high_wide, low_wide}
use Rattle.interpolator_floats.proofs.parts.f32_parts.Goals as goal

pub float_to_bits-bits : goal.float_to_bits-bits
float_to_bits-bits c = finite_number c.args.x c.requires

pub returns-then-field-eq0-clause-value : goal.returns-then-field-eq0-clause-value
returns-then-field-eq0-clause-value c = low_wide c.args.x (passes _ c.well_formed.0.1) (search rules)

pub returns-clause-value : goal.returns-clause-value
returns-clause-value c = high_wide c.args.x (passes _ c.well_formed.0.1) c.requires (search rules)

pub returns-clause-low : goal.returns-clause-low
returns-clause-low c = omega (arith, below_infinity c.args.x (passes _ c.well_formed.0.1) c.requires)
