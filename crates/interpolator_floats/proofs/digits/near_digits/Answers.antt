use Rattle.std.proofs.Common.{rules}
use Rattle.interpolator_floats.proofs.FloatLemmas.{below_unit, near_text, next_text}
use Rattle.interpolator_floats.proofs.digits.near_digits.Goals as goal

pub returns-then-part-unit-clause-text : goal.returns-then-part-unit-clause-text
returns-then-part-unit-clause-text c =
    next_text c.args.mantissa c.args.places c.args.down c.args.zeros _ _ c.nearest_part-part.result c.requires.point
    c.cut_at_point-whole.ensures.whole c.cut_at_point-whole.ensures.rest (search rules) (search rules)

pub returns-clause-text : goal.returns-clause-text
returns-clause-text c =
    near_text c.args.mantissa c.args.places c.args.down c.args.zeros _ _ c.nearest_part-part.result c.requires.point
    c.cut_at_point-whole.ensures.whole c.cut_at_point-whole.ensures.rest (search rules)
    (below_unit _ c.args.places c.args.down _ c.cut_at_point-whole.ensures.short (search rules) (search rules))

pub returns-clause-fits : goal.returns-clause-fits
returns-clause-fits c =
    below_unit _ c.args.places c.args.down _ c.cut_at_point-whole.ensures.short (search rules) (search rules)
