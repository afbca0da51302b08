use Rattle.std.proofs.Common.{◌≡◌, length}
use Rattle.plurals.specs.{Readings.close_from, Readings.frames, Trees.tree_of}
use Rattle.plurals.proofs.reduce.close_from.Given as goal

abbrev pub invariant-loop-frame : goal.invariant-loop-frame
invariant-loop-frame l = close_from l.least (frames l.fn.stack.items) (tree_of l.initial.whole)
    ≡ close_from l.least (frames l.stack.items) (tree_of l.whole)

abbrev pub decreases-loop-frame : goal.decreases-loop-frame
decreases-loop-frame l = length l.stack.items
