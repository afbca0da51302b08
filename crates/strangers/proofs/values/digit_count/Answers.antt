use Rattle.std.proofs.Common.{sym}
use Rattle.strangers.proofs.DecimalLemmas.{power_digits, zero_digits}
use Rattle.strangers.proofs.values.digit_count.Goals as goal

pub returns-in-None-clause-count : goal.returns-in-None-clause-count
returns-in-None-clause-count c = sym (zero_digits c.args.number c.in-None.ensures.none)

pub returns-in-Some-clause-count : goal.returns-in-Some-clause-count
returns-in-Some-clause-count c =
    sym (power_digits c.in-Some.power c.args.number c.in-Some.ensures.power_le
    c.in-Some.ensures.next_power_gt)
