use Rattle.std.proofs.Common.{◌-◌, ◌*◌, ◌<◌, ◌^◌, ap, arith, inl, refl, subst, sym, ◌∙◌}
use lib.Ieee.{binary32}
use Rattle.interpolator_floats.proofs.ChosenLemmas.{by_short_steps, shortest_of_mantissa, shortest_of_zero}
use Rattle.interpolator_floats.proofs.ShortestLemmas.{any_size, is_short_mantissa, zero_short}
use Rattle.interpolator_floats.specs.Floats.{has_minus}
use Rattle.interpolator_floats.specs.Shortest.{IsShortest}
use Rattle.interpolator_floats.proofs.shortest.shortest_f32_digits.Goals as goal

pub returns-then-parts-eq0-clause-shortest : goal.returns-then-parts-eq0-clause-shortest
returns-then-parts-eq0-clause-shortest c = λ steps v.
    let parts = c.f32_parts-parts in
    let same = any_size c.args.x (has_minus c.args.x) parts.result.negative steps (parts.result.mantissa * 2 ^ parts.result.power) (2 ^ 1074) v parts.ensures.value in
    zero_short steps (same ∙ ap (λ x. x * 2 ^ parts.result.power) c.if-parts-eq0.true ∙ omega arith)

pub returns-then-parts-eq0-clause-value : goal.returns-then-parts-eq0-clause-value
returns-then-parts-eq0-clause-value c =
    let parts = c.f32_parts-parts in
    sym (shortest_of_zero binary32 c.args.x parts.result.negative parts.result.mantissa parts.result.power c.if-parts-eq0.true parts.ensures.value)

pub returns-then-parts-eq0-clause-trimmed : goal.returns-then-parts-eq0-clause-trimmed
returns-then-parts-eq0-clause-trimmed c = record { one_way = inl refl; last = λ z. (refl, refl) }

pub returns-clause-shortest : goal.returns-clause-shortest
returns-clause-shortest c = λ steps v.
    let parts = c.f32_parts-parts in
    let half = c.half_below-half in
    let same = any_size c.args.x (has_minus c.args.x) parts.result.negative steps (parts.result.mantissa * 2 ^ parts.result.power) (2 ^ 1074) v parts.ensures.value in
    let some : 0 < parts.result.mantissa = omega arith in
    subst (λ x. IsShortest binary32 x c.shortest_of.result.digits c.shortest_of.result.up c.shortest_of.result.down) (sym same)
    (c.shortest_of.ensures.shortest binary32 (parts.result.power - 925) (is_short_mantissa parts.result.mantissa parts.result.power half.result some parts.ensures.short parts.ensures.least parts.ensures.low parts.ensures.normal half.ensures.edge half.ensures.plain))

pub returns-clause-value : goal.returns-clause-value
returns-clause-value c =
    let parts = c.f32_parts-parts in
    let half = c.half_below-half in
    let some : 0 < parts.result.mantissa = omega arith in
    let has = is_short_mantissa parts.result.mantissa parts.result.power half.result some parts.ensures.short parts.ensures.least parts.ensures.low parts.ensures.normal half.ensures.edge half.ensures.plain in
    c.shortest_of.ensures.value ∙ sym (shortest_of_mantissa binary32 c.args.x parts.result.negative parts.result.mantissa (parts.result.power - 925) parts.result.power half.result has (by_short_steps c.args.x parts.result.negative parts.result.mantissa parts.result.power parts.ensures.least parts.ensures.value))
