use Rattle.std.proofs.Common.{rules, ◌∙◌}
use Rattle.interpolator_floats.proofs.FloatLemmas.{near_decimal}
use Rattle.interpolator_floats.proofs.digits.float_digits.Goals as goal

pub returns-then-precision-le19-clause-text : goal.returns-then-precision-le19-clause-text
returns-then-precision-le19-clause-text c =
    let near = c.float_parts-near in
    c.near_digits.ensures.text
    ∙ near_decimal c.args.x near.result.negative near.result.mantissa near.result.power c.args.precision (search rules) near.ensures.value c.requires
