use Rattle.std.proofs.Common.{◌-◌, ◌+◌, ◌*◌, arith, sym}
use Rattle.interpolator_floats.proofs.BoundLemmas.{slack}
use Rattle.interpolator_floats.proofs.DecideLemmas.{bounds_narrow, choice_some, inside, last_some, low_next, near_high, near_low, near_most, slack_odd, some_count, within}
use Rattle.interpolator_floats.proofs.ReadLemmas.{slack-le}
use Rattle.interpolator_floats.proofs.UnitLemmas.{count_short, step_some, unit_some}
use Rattle.interpolator_floats.specs.Shortest.{units_down, units_up}
use Rattle.interpolator_floats.proofs.shortest.scaled_choice.Goals as goal

pub first_inside-low-requires : goal.first_inside-low-requires
first_inside-low-requires c =
    let counted = c.counted_scale-counted in
    omega (arith, c.quick_units-below.ensures.count, count_short (4 * c.args.mantissa - c.args.half) c.args.power c.args.half counted.result.scale.up counted.result.scale.down (omega (arith, c.requires.short)) c.requires.least counted.ensures.scale)

pub last_inside-high-requires : goal.last_inside-high-requires
last_inside-high-requires c =
    let counted = c.counted_scale-counted in
    omega (arith, c.quick_units-above.ensures.count, last_some c.args.mantissa c.args.half (units_down c.args.power counted.result.scale.down) (units_up counted.result.scale.up) c.requires.some c.requires.most counted.ensures.scale.finer (unit_some counted.result.scale.up))

pub overflow_add-near : goal.overflow_add-near
overflow_add-near c =
    let counted = c.counted_scale-counted in
    omega (arith, c.quick_units-twice.ensures.count, count_short (8 * c.args.mantissa) c.args.power c.args.half counted.result.scale.up counted.result.scale.down (omega (arith, c.requires.short)) c.requires.least counted.ensures.scale)

pub returns-clause-choice : goal.returns-clause-choice
returns-clause-choice c =
    let counted = c.counted_scale-counted in
    let m = c.args.mantissa in
    let half = c.args.half in
    let d = units_down c.args.power counted.result.scale.down in
    let unit = units_up counted.result.scale.up in
    let U = unit_some counted.result.scale.up in
    let first = c.first_inside-low.ensures ((4 * m - half) * d) unit U (sym c.quick_units-below.ensures.count) c.quick_units-below.ensures.some c.quick_units-below.ensures.none in
    let last = c.last_inside-high.ensures ((4 * m + 2) * d) unit U (sym c.quick_units-above.ensures.count) c.quick_units-above.ensures.some c.quick_units-above.ensures.none in
    let odd = slack_odd m half c.requires.least c.requires.most c.requires.even in
    let finer = counted.ensures.scale.finer in
    let wide = counted.ensures.scale.least in
    let q = c.quick_units-twice.result.count in
    let twice = sym c.quick_units-twice.ensures.count in
    let low = c.first_inside-low.result in
    let high = c.last_inside-high.result in
    c.decided.ensures (4 * (m * d)) unit (half * d + slack m) (2 * d + slack m) U
    (bounds_narrow m half d unit (slack m) q low high c.requires.some (slack-le m) c.requires.least c.requires.most finer wide odd twice first last)
    (within m half d unit (slack m) q low high c.requires.some (slack-le m) c.requires.least c.requires.most finer wide odd twice first last)
    (inside m half d unit (slack m) q low high c.requires.some (slack-le m) c.requires.least c.requires.most finer wide odd twice first last)
    (near_low m half d unit (slack m) q low high c.requires.some (slack-le m) c.requires.least c.requires.most finer wide odd twice first last)
    (near_high m half d unit (slack m) q low high c.requires.some (slack-le m) c.requires.least c.requires.most finer wide odd twice first last)
    (near_most m half d unit (slack m) q low high c.requires.some (slack-le m) c.requires.least c.requires.most finer wide odd twice first last)
    (low_next m half d unit (slack m) q low high c.requires.some (slack-le m) c.requires.least c.requires.most finer wide odd twice first last)
    (some_count m half d unit (slack m) q low high c.requires.some (slack-le m) c.requires.least c.requires.most finer wide odd twice first last)

pub returns-clause-some : goal.returns-clause-some
returns-clause-some c =
    let counted = c.counted_scale-counted in
    let m = c.args.mantissa in
    let half = c.args.half in
    let d = units_down c.args.power counted.result.scale.down in
    let unit = units_up counted.result.scale.up in
    let U = unit_some counted.result.scale.up in
    let first = c.first_inside-low.ensures ((4 * m - half) * d) unit U (sym c.quick_units-below.ensures.count) c.quick_units-below.ensures.some c.quick_units-below.ensures.none in
    let last = c.last_inside-high.ensures ((4 * m + 2) * d) unit U (sym c.quick_units-above.ensures.count) c.quick_units-above.ensures.some c.quick_units-above.ensures.none in
    let odd = slack_odd m half c.requires.least c.requires.most c.requires.even in
    let finer = counted.ensures.scale.finer in
    let wide = counted.ensures.scale.least in
    let q = c.quick_units-twice.result.count in
    let twice = sym c.quick_units-twice.ensures.count in
    let low = c.first_inside-low.result in
    let high = c.last_inside-high.result in
    let choice = c.decided.ensures (4 * (m * d)) unit (half * d + slack m) (2 * d + slack m) U
    (bounds_narrow m half d unit (slack m) q low high c.requires.some (slack-le m) c.requires.least c.requires.most finer wide odd twice first last)
    (within m half d unit (slack m) q low high c.requires.some (slack-le m) c.requires.least c.requires.most finer wide odd twice first last)
    (inside m half d unit (slack m) q low high c.requires.some (slack-le m) c.requires.least c.requires.most finer wide odd twice first last)
    (near_low m half d unit (slack m) q low high c.requires.some (slack-le m) c.requires.least c.requires.most finer wide odd twice first last)
    (near_high m half d unit (slack m) q low high c.requires.some (slack-le m) c.requires.least c.requires.most finer wide odd twice first last)
    (near_most m half d unit (slack m) q low high c.requires.some (slack-le m) c.requires.least c.requires.most finer wide odd twice first last)
    (low_next m half d unit (slack m) q low high c.requires.some (slack-le m) c.requires.least c.requires.most finer wide odd twice first last)
    (some_count m half d unit (slack m) q low high c.requires.some (slack-le m) c.requires.least c.requires.most finer wide odd twice first last) in
    choice_some m half d unit (slack m) c.decided.result.count c.requires.some c.requires.most (slack-le m) (step_some c.args.power counted.result.scale.down) choice.inside
