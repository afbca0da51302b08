use Rattle.interpolator_render.proofs.LengthLemmas.{view_within, written_grows}
use Rattle.interpolator_render.proofs.laws.lengths.a_view_is_no_longer_than_its_trait_allows.Goals as goal

pub returns-clause-written : goal.returns-clause-written
returns-clause-written c = view_within

pub returns-clause-grows : goal.returns-clause-grows
returns-clause-grows c = written_grows
