use Rattle.std.proofs.Common.{◌≡◌, ◌+◌, ◌*◌, map, drop, flat_map}
use Rattle.std.specs.List.{list_any}
use Rattle.interpolator_eval.specs.{Slots.slots_of, Meaning.Samples.at_level, Meaning.Samples.lacks}
use Rattle.interpolator_eval.proofs.evaluate.need.+below.Given as goal

abbrev pub decreases-lacks_below : goal.decreases-lacks_below
decreases-lacks_below g l = 2 * l.level + 1

abbrev pub decreases-lacks_at : goal.decreases-lacks_at
decreases-lacks_at g l = 2 * l.level

-- something is lacking below the items that are left exactly if it is below all of them
abbrev pub invariant-lacks_below-loop-item : goal.invariant-lacks_below-loop-item
invariant-lacks_below-loop-item g l =
    let test = lacks g.V.Value.shows l.need in
    list_any test (flat_map (at_level l.level) (map slots_of (drop l.item-index l.items)))
    ≡ list_any test (flat_map (at_level l.level) (map slots_of l.items))
