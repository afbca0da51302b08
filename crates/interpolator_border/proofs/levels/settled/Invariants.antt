use Rattle.std.proofs.Common.{◌≡◌, take}
use Rattle.interpolator_border.specs.Fields.{settled}
use Rattle.interpolator_border.proofs.levels.settled.Given as goal

-- what is settled among the items so far
abbrev pub invariant-loop-item : goal.invariant-loop-item
invariant-loop-item l =
    (l.count ≡ l.item-index) × (l.after ≡ settled l.from (take l.item-index l.items))
