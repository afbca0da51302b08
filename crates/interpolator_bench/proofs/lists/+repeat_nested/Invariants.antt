use Rattle.interpolator_bench.proofs.lists.+repeat_nested.Given as goal

abbrev pub decreases-repeat_nested : goal.decreases-repeat_nested
decreases-repeat_nested l = l.depth
