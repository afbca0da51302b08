use Rattle.std.proofs.Common.{◌≡◌, [], map, take}
use Rattle.interpolator.specs.Prepared.Rows.{pair_names}
use Rattle.interpolator_eval.specs.Slots.{slots_of}
use Rattle.interpolator_border.specs.{Fields.field_slots, Tables.column_names}
use Rattle.interpolator_border.proofs.table.pairs_of.Given as goal

-- the pairs so far are those of the columns so far
abbrev pub invariant-loop-column : goal.invariant-loop-column
invariant-loop-column l =
    (pair_names l.pairs.items ≡ column_names (take l.column-index l.columns))
    × (map (λ pair. slots_of pair.1) l.pairs.items
    ≡ map (field_slots []) (take l.column-index l.columns))
