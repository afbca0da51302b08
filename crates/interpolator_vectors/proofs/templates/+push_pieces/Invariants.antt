use Rattle.std.proofs.Common.{◌-◌}
use Rattle.interpolator_vectors.proofs.templates.+push_pieces.Given as goal

abbrev pub decreases-push_pieces : goal.decreases-push_pieces
decreases-push_pieces l = 8 - l.depth
