use Rattle.std.proofs.Common.{◌-◌, ◌*◌, ◌^◌, ◌<◌, arith}
use Rattle.std.proofs.Math.Nat.{mul-pos}
use Rattle.interpolator_digits.proofs.ExponentLemmas.{pow_some}
use Rattle.interpolator_floats.proofs.RoundedLemmas.{quarters_fit, quick_rounded}
use Rattle.interpolator_floats.proofs.rounding.fine_rounded.Goals as goal

pub fine_quarters-x-requires-clause-fits : goal.fine_quarters-x-requires-clause-fits
fine_quarters-x-requires-clause-fits c =
    let scale = c.args.counted.scale in
    quarters_fit c.args.mantissa c.args.power scale.up scale.down c.args.last c.args.places c.requires.scale c.requires.most c.requires.more c.requires.few

pub quick_nearest-requires-clause-some : goal.quick_nearest-requires-clause-some
quick_nearest-requires-clause-some c =
    let k = c.args.places - c.args.last in
    let some : 0 < 4 * c.args.mantissa * 10 ^ k = mul-pos (omega (arith, c.requires.some)) (pow_some k) in
    omega (arith, c.fine_quarters-x.ensures, some)

pub quick_nearest-requires-clause-short : goal.quick_nearest-requires-clause-short
quick_nearest-requires-clause-short c =
    let scale = c.args.counted.scale in
    let fits = quarters_fit c.args.mantissa c.args.power scale.up scale.down c.args.last c.args.places c.requires.scale c.requires.most c.requires.more c.requires.few in
    omega (arith, c.fine_quarters-x.ensures, fits)

pub returns-in-Some-clause-rounded : goal.returns-in-Some-clause-rounded
returns-in-Some-clause-rounded c =
    let scale = c.args.counted.scale in
    let lower = c.lowered in
    quick_rounded c.args.mantissa c.args.power scale.up scale.down c.args.last c.args.places lower.result.up lower.result.down c.fine_quarters-x.result c.in-Some.count
    lower.ensures.up lower.ensures.down c.requires.least c.requires.most c.requires.more c.fine_quarters-x.ensures c.in-Some.ensures
