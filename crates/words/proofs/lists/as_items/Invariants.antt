use Rattle.std.proofs.Common.{◌≡◌, map, take}
use Rattle.interpolator.specs.Slots.{slots_of}
use Rattle.words.specs.Lists.{item_slots}
use Rattle.words.proofs.lists.as_items.Given as goal

abbrev pub invariant-loop-value : goal.invariant-loop-value
invariant-loop-value g l = map slots_of l.items.items ≡ item_slots (take l.value-index l.values)
