use Rattle.interpolator_pieces.proofs.VisitLemmas.{text_asks, text_tells, text_depth, text_extent}
use Rattle.interpolator_laws.proofs.visits.one_walk_gathers_all.Goals as goal

pub returns : goal.returns
returns c =
    record { names = text_asks; faults = text_tells; extent = text_extent; depth = text_depth }
