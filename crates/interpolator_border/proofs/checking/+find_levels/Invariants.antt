use Rattle.interpolator_border.proofs.checking.+find_levels.Given as goal

abbrev pub decreases-find_levels : goal.decreases-find_levels
decreases-find_levels l = l.known.levels
