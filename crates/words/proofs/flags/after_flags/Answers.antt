use Rattle.std.proofs.Common.{◌++◌, ◌∙◌, append_assoc, ap, sym}
use Rattle.words.proofs.flags.after_flags.Goals as goal

pub loop-more-preserved : goal.loop-more-preserved
loop-more-preserved g c =
    let before = c.loop-more.invariant in
    let taken = c.in-Some.ensures.end in
    let joined = append_assoc before.0 taken.0 c.in-Some.more.now in
    (before.0 ++ taken.0, before.1 ∙ (ap (λ rest. before.0 ++ rest) taken.1 ∙ sym joined))
