use Rattle.std.proofs.Common.{refl}
use Rattle.merge.proofs.ValueLemmas.{none_misfits}
use Rattle.merge.proofs.letters.write_fields.Goals as goal

pub returns-then-writes-clause-trouble : goal.returns-then-writes-clause-trouble
returns-then-writes-clause-trouble g c =
    let shown = rw c.in-Ok.is at c.in_ok-read.ensures in
    (_, none_misfits 1 _ _ _ shown, refl)

pub returns-else-writes-clause-trouble : goal.returns-else-writes-clause-trouble
returns-else-writes-clause-trouble g c =
    let shown = rw c.in-Ok.is at c.in_ok-read.ensures in
    (_, none_misfits 1 _ _ _ shown, refl)
