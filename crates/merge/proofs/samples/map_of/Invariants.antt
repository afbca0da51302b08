use Rattle.std.proofs.Common.{take}
use Rattle.interpolator.specs.SampleMaps.{HasLast}
use Rattle.merge.proofs.samples.map_of.Given as goal

-- the map of the pairs so far
abbrev pub invariant-loop-pair : goal.invariant-loop-pair
invariant-loop-pair l = HasLast (take l.pair-index l.sample) l.map
