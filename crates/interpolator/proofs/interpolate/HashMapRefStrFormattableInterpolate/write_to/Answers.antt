use Rattle.interpolator_pieces.proofs.CallLemmas.{text_written}
use Rattle.interpolator.proofs.interpolate.HashMapRefStrFormattableInterpolate.write_to.Goals as goal

pub returns : goal.returns
returns g c =
    text_written _ _ _ _ _ _ c.utf8.text (rw (c.new.ensures) at c.write.ensures.outcome)
