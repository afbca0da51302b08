use Rattle.std.proofs.Common.{arith, sym, ◌^◌}
use Rattle.strangers.proofs.DecimalLemmas.{no_whole}
use Rattle.strangers.proofs.values.whole_digits.Goals as goal

pub returns-in-None-clause-count : goal.returns-in-None-clause-count
returns-in-None-clause-count c =
    sym (no_whole c.args.units (10 ^ c.args.scale) (omega (arith, c.in-None.ensures)))
