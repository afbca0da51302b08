use Rattle.interpolator_border.proofs.writing.+write_levels.Given as goal

abbrev pub decreases-write_levels : goal.decreases-write_levels
decreases-write_levels g l = l.known.levels
