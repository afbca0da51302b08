use Rattle.std.proofs.Common.{◌≡◌, drop, map}
use Rattle.interpolator.specs.NamedValues.{pair_of}
use Rattle.interpolator.specs.Prepared.Rows.{name_bytes, pair_names}
use Rattle.interpolator.proofs.named_row.have_names.Given as goal

-- if the names that are left are those of the values that are left, all are
abbrev pub invariant-loop-value : goal.invariant-loop-value
invariant-loop-value l =
    name_bytes l.left ≡ pair_names (map pair_of (drop l.value-index l.values))
    → name_bytes l.names ≡ pair_names (map pair_of l.values)
