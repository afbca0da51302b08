use Rattle.std.proofs.Common.{◌≡◌, map, take}
use Rattle.interpolator_eval.specs.Slots.{slots_of, empty_slots, with_integer}
use Rattle.interpolator_eval.proofs.rows.items_of.Given as goal

abbrev pub invariant-loop-value : goal.invariant-loop-value
invariant-loop-value g l =
    map slots_of l.items.items ≡ map (with_integer empty_slots) (take l.value-index l.values)
