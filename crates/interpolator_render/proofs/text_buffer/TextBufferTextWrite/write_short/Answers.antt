use Rattle.std.proofs.Common.{arith, length-append, length-drop, length-take-le}
use Rattle.std.proofs.lemmas.{Grind.common_steps, Str.chars-append}
use Rattle.interpolator_render.proofs.PlaceLemmas.{front_of_both, holds_more}
use Rattle.interpolator_render.proofs.text_buffer.TextBufferTextWrite.write_short.Goals as goal

pub invariant_of-self : goal.invariant_of-self
invariant_of-self c =
    holds_more _ _ _ _ _ _ _ c.self.invariant c.requires.utf8
    (front_of_both _ c.args.row.now _ _ _ c.args.count c.self.invariant.within (omega arith)
    c.put_at.ensures.items)
    (grind (arith, length-append, length-drop, length-take-le))
    (λ set. grind (arith, length-append, length-drop, length-take-le))

pub returns-then-len-self-ge16-clause-written : goal.returns-then-len-self-ge16-clause-written
returns-then-len-self-ge16-clause-written c =
    let front = front_of_both _ c.args.row.now _ _ _ c.args.count c.self.invariant.within
    (omega arith) c.put_at.ensures.items in
    grind (arith, common_steps, front, length-take-le, length-append, chars-append)
