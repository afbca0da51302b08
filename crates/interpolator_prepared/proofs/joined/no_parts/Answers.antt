use Rattle.interpolator_prepared.proofs.JoinedLemmas.{empty_joined}
use Rattle.interpolator_prepared.proofs.joined.no_parts.Goals as goal

pub returns : goal.returns
returns c = empty_joined _ _ c.new-2.ensures.items c.new.ensures.bytes
