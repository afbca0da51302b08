use Rattle.std.proofs.Common.{◌≡◌, drop}
use Rattle.interpolator_eval.specs.Slots.{slots_of}
use Rattle.interpolator.specs.NamedValues.{with_traits}
use Rattle.interpolator.proofs.values.and_slots.Given as goal

-- the slots so far, and then those of the traits that are left, are those of all traits
abbrev pub invariant-loop-filled : goal.invariant-loop-filled
invariant-loop-filled g l =
    with_traits (drop l.filled-index l.traits) (slots_of l.slots) l.value
    ≡ with_traits l.traits (slots_of l.before) l.value
