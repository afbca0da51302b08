use Rattle.std.proofs.Common.{arith, ◌+◌}
use Rattle.interpolator_floats.proofs.PlainLemmas.{exponent_shown, exponent_zero, small_log}
use Rattle.interpolator_floats.proofs.plain.units_exponent.Goals as goal

pub returns-then-shown-eq0-clause-exponent : goal.returns-then-shown-eq0-clause-exponent
returns-then-shown-eq0-clause-exponent c = exponent_zero c.args.shown.digits c.args.shown.up c.if-shown-eq0.true

pub returns-clause-exponent : goal.returns-clause-exponent
returns-clause-exponent c =
    exponent_shown c.args.shown.digits c.args.shown.up c.ilog10.result (c.ilog10.result + c.args.shown.up)
    c.ilog10.ensures.power_le c.ilog10.ensures.next_power_gt (omega arith)

pub returns-clause-small : goal.returns-clause-small
returns-clause-small c = omega (arith, small_log c.args.shown.digits c.ilog10.result (omega arith) c.ilog10.ensures.power_le)
