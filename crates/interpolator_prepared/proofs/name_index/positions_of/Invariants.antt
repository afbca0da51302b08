use Rattle.std.proofs.Common.{◌≡◌, take}
use Rattle.interpolator_prepared.specs.Rows.{HasPositions, name_bytes}
use Rattle.interpolator_prepared.proofs.name_index.positions_of.Given as goal

-- the last positions of the names so far
abbrev pub invariant-loop-name : goal.invariant-loop-name
invariant-loop-name l =
    (l.position ≡ l.name-index) × HasPositions (name_bytes (take l.name-index l.names)) l.positions
