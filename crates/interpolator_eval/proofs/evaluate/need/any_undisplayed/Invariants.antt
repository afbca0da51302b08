use Rattle.std.proofs.Common.{◌≡◌, length, map}
use Rattle.std.specs.List.{list_any}
use Rattle.interpolator_render.specs.declared.view.Trait.TheVariants.{Display}
use Rattle.interpolator_eval.specs.{Slots.slots_of, Meaning.Samples.hidden}
use Rattle.interpolator_eval.proofs.evaluate.need.any_undisplayed.Given as goal

-- one of the items that are left is hidden exactly if one of all is
abbrev pub invariant-loop-left : goal.invariant-loop-left
invariant-loop-left g l =
    let test = hidden g.V.Value.shows Display l.spec in
    list_any test (map slots_of l.left) ≡ list_any test (map slots_of l.items)

abbrev pub decreases-loop-left : goal.decreases-loop-left
decreases-loop-left g l = length l.left
