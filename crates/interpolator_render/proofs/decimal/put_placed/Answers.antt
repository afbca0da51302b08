use Rattle.std.proofs.Common.{◌+◌, ap, arith}
use Rattle.interpolator_render.proofs.DecimalRowLemmas.{led_fits}
use Rattle.interpolator_render.proofs.decimal.put_placed.Goals as goal

pub put_low_decimal-one-requires : goal.put_low_decimal-one-requires
put_low_decimal-one-requires c =
    let sum = ap (λ unit. unit + c.args.part) c.power.ensures in
    let few = led_fits c.args.places c.args.part _ c.requires.fits sum in
    omega (arith, few, c.requires.room)
