use Rattle.std.proofs.Common.{refl}
use Rattle.words.proofs.PartLemmas.{float_alone}
use Rattle.merge.proofs.values.float_in.Goals as goal

pub returns-in-Ok : goal.returns-in-Ok
returns-in-Ok c =
    let reads = float_alone c.trim.result.now c.parse.result c.parse.ensures.value.1 c.in-Ok.value in
    rw (← c.trim.ensures.trim) (c.in-Ok.value, reads.1 (rw c.in-Ok.is refl), refl)

pub returns-in-Err : goal.returns-in-Err
returns-in-Err c = rw (← c.trim.ensures.trim) (λ fits.
    let reads = float_alone c.trim.result.now c.parse.result c.parse.ensures.value.1 fits.0 in
    let same = rw c.in-Err.is at (reads.0 fits.1) in absurd cc)
