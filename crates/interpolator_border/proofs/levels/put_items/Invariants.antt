use Rattle.std.proofs.Common.{◌≡◌, ◌++◌, map, take}
use Rattle.interpolator_eval.specs.Slots.{slots_of}
use Rattle.interpolator_border.specs.Fields.{field_slots}
use Rattle.interpolator_border.proofs.levels.put_items.Given as goal

-- the items so far were appended
abbrev pub invariant-loop-item : goal.invariant-loop-item
invariant-loop-item l =
    map slots_of l.level.items ≡ map slots_of l.initial.level.items
    ++ map (field_slots (map slots_of l.below)) (take l.item-index l.items)
