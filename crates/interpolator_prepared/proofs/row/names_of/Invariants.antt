use Rattle.std.proofs.Common.{◌≡◌, take}
use Rattle.interpolator_prepared.specs.Rows.{name_bytes, pair_names}
use Rattle.interpolator_prepared.proofs.row.names_of.Given as goal

-- the names of the pairs so far
abbrev pub invariant-loop-pair : goal.invariant-loop-pair
invariant-loop-pair g l =
    name_bytes l.names.items ≡ pair_names (take l.pair-index l.pairs)
