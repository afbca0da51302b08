use Rattle.std.proofs.Common.{◌≤◌, ◌-◌, length}
use Rattle.interpolator_escapes.specs.Search.{ArePlain}
use Rattle.interpolator_escapes.proofs.search.past_wide_blocks.Given as goal

abbrev pub invariant-loop-end : goal.invariant-loop-end
invariant-loop-end g l = (l.end ≤ length l.bytes) × ArePlain l.escape l.bytes l.end

abbrev pub decreases-loop-end : goal.decreases-loop-end
decreases-loop-end g l = length l.bytes - l.end
