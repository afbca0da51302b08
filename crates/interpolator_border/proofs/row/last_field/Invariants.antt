use Rattle.std.proofs.Common.{◌≡◌, ◌≤◌, length, take}
use Rattle.interpolator_border.specs.Fields.{last_named}
use Rattle.interpolator_border.proofs.row.last_field.Given as goal

-- none of the fields after those left is that of the name
abbrev pub invariant-loop-left : goal.invariant-loop-left
invariant-loop-left l =
    (l.left ≤ length l.fields)
    × (last_named l.fields l.name ≡ last_named (take l.left l.fields) l.name)

abbrev pub decreases-loop-left : goal.decreases-loop-left
decreases-loop-left l = l.left
