use Rattle.std.proofs.Common.{arith, length-take-le, take-take}
use Rattle.std.proofs.lemmas.Str.{chars-append, encodes-chars}
use Rattle.interpolator_render.proofs.WrittenLemmas.{refuses_all, chars_nonempty}
use Rattle.interpolator_render.proofs.PlaceLemmas.{holds_more}
use Rattle.interpolator_render.proofs.text_buffer.TextBuffer.append_slowly.Goals as goal

pub returns-then-self-clause-written : goal.returns-then-self-clause-written
returns-then-self-clause-written c = grind (arith, refuses_all, chars_nonempty, take-take)

pub invariant_of-self-in-Ok : goal.invariant_of-self-in-Ok
invariant_of-self-in-Ok c = holds_more _ _ _ _ _ _ _ c.self.invariant c.utf8.text (grind arith)
    (grind arith) (λ set. grind arith)

pub returns-in-Ok-clause-written : goal.returns-in-Ok-clause-written
returns-in-Ok-clause-written c = grind (arith, chars-append)

pub returns-in-Err-clause-written : goal.returns-in-Err-clause-written
returns-in-Err-clause-written c = grind (arith, refuses_all, chars_nonempty, take-take)

pub returns-in-Err-clause-full : goal.returns-in-Err-clause-full
returns-in-Err-clause-full c = grind (arith, encodes-chars, length-take-le)
