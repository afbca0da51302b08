use Rattle.std.proofs.Common.{arith}
use Rattle.interpolator_floats.proofs.PlainLemmas.{scientific_shown, scientific_zero}
use Rattle.interpolator_floats.proofs.plain.scientific_digits.Goals as goal

pub returns-then-shown-eq0 : goal.returns-then-shown-eq0
returns-then-shown-eq0 c = scientific_zero c.args.shown.digits c.args.shown.up c.args.shown.down c.if-shown-eq0.true

pub returns : goal.returns
returns c =
    let shown = c.args.shown in
    scientific_shown shown.digits shown.up shown.down c.units_exponent.result c.exponent_less-below.result.0 c.exponent_less-below.result.1 c.requires (omega arith)
    c.units_exponent.ensures.exponent c.exponent_less-below.ensures
