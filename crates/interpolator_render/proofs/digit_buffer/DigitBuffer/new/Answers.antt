use Rattle.interpolator_render.proofs.DigitBufferLemmas.{new_row}
use Rattle.interpolator_render.proofs.digit_buffer.DigitBuffer.new.Goals as goal

pub invariant_of-result : goal.invariant_of-result
invariant_of-result c = new_row c.args.fill c.requires
