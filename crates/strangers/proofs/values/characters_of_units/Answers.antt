use Rattle.std.proofs.Common.{refl}
use Rattle.strangers.proofs.DecimalLemmas.{length-decimal}
use Rattle.strangers.proofs.values.characters_of_units.Goals as goal

pub returns : goal.returns
returns c =
    rw (
      c.whole_digits.ensures.count,
      c.count_after.ensures,
      length-decimal c.args.scale c.args.units,
    ) refl
