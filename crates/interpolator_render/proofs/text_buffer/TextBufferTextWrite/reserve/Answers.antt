use Rattle.std.proofs.Common.{arith, length-take-le, take-take}
use Rattle.std.proofs.lemmas.Str.{encodes-chars}
use Rattle.interpolator_render.proofs.text_buffer.TextBufferTextWrite.reserve.Goals as goal

pub returns-then-bytes-capacity-clause-ready : goal.returns-then-bytes-capacity-clause-ready
returns-then-bytes-capacity-clause-ready c = grind (arith, encodes-chars, length-take-le)

pub returns-in-Ok-clause-ready : goal.returns-in-Ok-clause-ready
returns-in-Ok-clause-ready c = grind (arith, encodes-chars, take-take, length-take-le)

pub returns-in-Err-clause-full : goal.returns-in-Err-clause-full
returns-in-Err-clause-full c = grind (arith, encodes-chars, length-take-le)
