use Rattle.std.proofs.{Common.refl, lemmas.Int.to_z-of_z}
use Rattle.std.specs.Int.{w128}
use Rattle.merge.proofs.values.number_in.Goals as goal

pub returns-in-Ok : goal.returns-in-Ok
returns-in-Ok c =
    let decimal = c.in-Ok.decimal in
    let spelled = (c.in-Ok.ensures.spelled decimal).1 refl in
    rw (← c.trim.ensures.trim, to_z-of_z w128 decimal.units spelled.1.0) (decimal, spelled, refl)

pub returns-in-Err : goal.returns-in-Err
returns-in-Err c = rw (← c.trim.ensures.trim)
    (λ fits. let no = (c.in-Err.ensures.spelled fits.0).0 fits.1 in cc)
