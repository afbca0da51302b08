use Rattle.std.proofs.Common.{length}
use Rattle.words.specs.Flags.{IsEnd}
use Rattle.words.proofs.flags.after_flags.Given as goal

abbrev pub decreases-loop-more : goal.decreases-loop-more
decreases-loop-more g l = length l.rest

abbrev pub invariant-loop-more : goal.invariant-loop-more
invariant-loop-more g l = IsEnd l.words l.rest
