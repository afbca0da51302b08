use Rattle.std.proofs.Common.{◌≡◌, ◌+◌, ◌*◌, ◌^◌, ◌<◌, suc, ap, arith, subst, sym, ◌∙◌, pow-suc}
use Rattle.interpolator_floats.proofs.RoundedLemmas.{count_least, count_most}
use Rattle.interpolator_floats.proofs.{StepLemmas.count_some, UnitLemmas.unit_some}
use Rattle.interpolator_floats.specs.Shortest.{units_down, units_up}
use Rattle.interpolator_floats.proofs.rounding.round_to.Goals as goal

pub ilog10-last-requires : goal.ilog10-last-requires
ilog10-last-requires c =
    let scale = c.counted_scale-counted in
    subst (λ x. 0 < x) (sym c.step_count-cut.ensures.count)
    (count_some c.args.mantissa c.args.power scale.result.scale.up scale.result.scale.down c.requires.some scale.ensures.scale)

pub returns-then-places-last-clause-rounded : goal.returns-then-places-last-clause-rounded
returns-then-places-last-clause-rounded c =
    let scale = c.counted_scale-counted.result.scale in
    let cut = c.step_count-cut in
    let last = c.ilog10-last.result in
    let above = 4 * c.args.mantissa * units_down c.args.power scale.down in
    let next : 10 ^ (last + 1) ≡ 10 ^ last * 10 = (let e : last + 1 ≡ suc last = omega arith in ap (λ k. 10 ^ k) e ∙ pow-suc 10 last) in
    let high : cut.result.count < 10 ^ (last + 1) = omega (arith, c.ilog10-last.ensures.next_power_gt, next) in
    record {
      fewer = omega (arith, c.if-places-last.true);
      least = count_least above (units_up scale.up) cut.result.count last (unit_some scale.up) cut.ensures.count c.ilog10-last.ensures.power_le;
      most = count_most above (units_up scale.up) cut.result.count last (unit_some scale.up) cut.ensures.count high;
      near = c.nearest_count.ensures above (units_up scale.up) (unit_some scale.up) (sym cut.ensures.count) cut.ensures.some cut.ensures.none;
    }

pub fine_rounded-requires-clause-least : goal.fine_rounded-requires-clause-least
fine_rounded-requires-clause-least c =
    let scale = c.counted_scale-counted.result.scale in
    let cut = c.step_count-cut in
    count_least (4 * c.args.mantissa * units_down c.args.power scale.down) (units_up scale.up) cut.result.count c.ilog10-last.result (unit_some scale.up) cut.ensures.count c.ilog10-last.ensures.power_le

pub fine_rounded-requires-clause-most : goal.fine_rounded-requires-clause-most
fine_rounded-requires-clause-most c =
    let scale = c.counted_scale-counted.result.scale in
    let cut = c.step_count-cut in
    let last = c.ilog10-last.result in
    let next : 10 ^ (last + 1) ≡ 10 ^ last * 10 = (let e : last + 1 ≡ suc last = omega arith in ap (λ k. 10 ^ k) e ∙ pow-suc 10 last) in
    let high : cut.result.count < 10 ^ (last + 1) = omega (arith, c.ilog10-last.ensures.next_power_gt, next) in
    count_most (4 * c.args.mantissa * units_down c.args.power scale.down) (units_up scale.up) cut.result.count last (unit_some scale.up) cut.ensures.count high
