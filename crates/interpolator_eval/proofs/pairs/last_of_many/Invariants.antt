use Rattle.std.proofs.Common.{◌≡◌, ◌≤◌, length, take}
use Rattle.interpolator_eval.specs.Contexts.{last_under}
use Rattle.interpolator_eval.proofs.pairs.last_of_many.Given as goal

-- none of the pairs after those left is of the name
abbrev pub invariant-loop-left : goal.invariant-loop-left
invariant-loop-left g l =
    (l.left ≤ length l.pairs)
    × (last_under l.pairs l.name ≡ last_under (take l.left l.pairs) l.name)

abbrev pub decreases-loop-left : goal.decreases-loop-left
decreases-loop-left g l = l.left
