use Rattle.std.proofs.Common.{◌≡◌, ◌≤◌, ◌-◌, replicate}
use Rattle.interpolator_render.specs.DigitBuffers.{put_before}
use Rattle.interpolator_render.proofs.digit_buffer.DigitBuffer.push_zeros.Given as goal

abbrev pub invariant-loop-done : goal.invariant-loop-done
invariant-loop-done l = (l.done ≤ l.count) × (l.self ≡ put_before (replicate l.done 48) l.initial.self)

abbrev pub decreases-loop-done : goal.decreases-loop-done
decreases-loop-done l = l.count - l.done
