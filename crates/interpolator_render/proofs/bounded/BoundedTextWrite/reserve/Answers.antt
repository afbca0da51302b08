use Rattle.std.proofs.{Common.arith, lemmas.Str.encodes-chars, lemmas.Str.IsUtf8-string_bytes}
use Rattle.interpolator_render.proofs.bounded.BoundedTextWrite.reserve.Goals as goal

pub returns-clause-written : goal.returns-clause-written
returns-clause-written c = grind (arith, encodes-chars, IsUtf8-string_bytes)

pub returns-clause-ready : goal.returns-clause-ready
returns-clause-ready c = grind (arith, encodes-chars, IsUtf8-string_bytes)

pub returns-clause-full : goal.returns-clause-full
returns-clause-full c = grind (arith, encodes-chars, IsUtf8-string_bytes)
