use Rattle.std.proofs.{Common.arith, lemmas.Str.encodes-chars, lemmas.Str.IsUtf8-string_bytes}
use Rattle.interpolator_render.proofs.bounded.Bounded.left.Goals as goal

pub returns-then-self-clause-within : goal.returns-then-self-clause-within
returns-then-self-clause-within c = grind (arith, encodes-chars, IsUtf8-string_bytes)

pub returns-clause-left : goal.returns-clause-left
returns-clause-left c = grind (arith, encodes-chars, IsUtf8-string_bytes)

pub returns-clause-within : goal.returns-clause-within
returns-clause-within c = grind (arith, encodes-chars, IsUtf8-string_bytes)
