use Rattle.std.proofs.Common.{◌≡◌, length}
use Rattle.interpolator_prepared.specs.Rows.{last_position, name_bytes}
use Rattle.interpolator_prepared.proofs.row.last_position.Given as goal

-- the last position so far, or a later one among the names that are left, is the last among all
abbrev pub invariant-loop-own : goal.invariant-loop-own
invariant-loop-own l =
    last_position (name_bytes l.left) l.name ≡ last_position (name_bytes l.names) l.name

abbrev pub decreases-loop-own : goal.decreases-loop-own
decreases-loop-own l = length l.left
