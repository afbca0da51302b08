use Rattle.std.proofs.Common.{◌≡◌, map, take}
use Rattle.interpolator.specs.NamedValues.{pair_of}
use Rattle.interpolator.specs.Prepared.Rows.{name_bytes, pair_names}
use Rattle.interpolator.proofs.named_row.names_of.Given as goal

-- the names of the values so far
abbrev pub invariant-loop-value : goal.invariant-loop-value
invariant-loop-value l =
    name_bytes l.names.items ≡ pair_names (map pair_of (take l.value-index l.values))
