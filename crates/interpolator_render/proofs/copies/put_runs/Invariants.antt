use Rattle.std.proofs.Common.{◌≤◌, ◌-◌, replicate}
use Rattle.interpolator_render.specs.Writers.{Appends}
use Rattle.interpolator_render.proofs.copies.put_runs.Given as goal

abbrev pub invariant-loop-left : goal.invariant-loop-left
invariant-loop-left g l = (l.left ≤ l.count)
    × Appends (g.W.TextWrite.written l.initial.out) (replicate (l.count - l.left) l.fn.run.c)
    (g.W.TextWrite.written l.out)

abbrev pub decreases-loop-left : goal.decreases-loop-left
decreases-loop-left g l = l.left
