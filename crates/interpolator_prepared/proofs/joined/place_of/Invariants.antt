use Rattle.std.proofs.Common.{◌≡◌, drop}
use Rattle.interpolator_prepared.specs.StoredSteps.{joined_place}
use Rattle.interpolator_prepared.proofs.joined.place_of.Given as goal

-- the rest of the offset has the place in the parts that are left that the offset has in all parts
abbrev pub invariant-loop-part : goal.invariant-loop-part
invariant-loop-part l =
    joined_place (drop l.part-index l.parts) l.left ≡ joined_place l.parts l.offset
