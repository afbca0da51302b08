use Rattle.std.proofs.Common.{arith, length-append, length-drop, length-take-le}
use Rattle.std.proofs.lemmas.{Grind.common_steps, List.take_at, Str.chars-append, Str.chars-nil}
use Rattle.interpolator_render.proofs.PlaceLemmas.{holds_more}
use Rattle.interpolator_render.proofs.text_buffer.TextBufferTextWrite.write_str.Goals as goal

pub invariant_of-self : goal.invariant_of-self
invariant_of-self c = holds_more _ _ _ _ _ _ _ c.self.invariant c.utf8.text
    (grind (arith, length-append, length-take-le, take_at))
    (grind (arith, length-append, length-drop, length-take-le))
    (λ set. grind (arith, length-append, length-drop, length-take-le))

pub returns-then-count-len-clause-written : goal.returns-then-count-len-clause-written
returns-then-count-len-clause-written c =
    grind (arith, common_steps, length-take-le, length-append, take_at, chars-append, chars-nil)
