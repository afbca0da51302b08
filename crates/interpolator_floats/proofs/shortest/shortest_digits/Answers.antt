use Rattle.std.proofs.Common.{◌*◌, ◌<◌, ◌^◌, ap, arith, inl, refl, subst, sym, ◌∙◌}
use lib.Ieee.{binary64}
use Rattle.interpolator_floats.proofs.ChosenLemmas.{shortest_of_mantissa, shortest_of_zero}
use Rattle.interpolator_floats.proofs.ShortestLemmas.{any_size, is_mantissa, zero_shortest}
use Rattle.interpolator_floats.specs.{Floats.has_minus, Shortest.IsShortest}
use Rattle.interpolator_floats.proofs.shortest.shortest_digits.Goals as goal

pub returns-then-parts-eq0-clause-shortest : goal.returns-then-parts-eq0-clause-shortest
returns-then-parts-eq0-clause-shortest c = λ steps v.
    let parts = c.float_parts-parts in
    let same = any_size c.args.x (has_minus c.args.x) parts.result.negative steps (parts.result.mantissa * 2 ^ parts.result.power) (2 ^ 1074) v parts.ensures.value in
    zero_shortest steps (same ∙ ap (λ x. x * 2 ^ parts.result.power) c.if-parts-eq0.true ∙ omega arith)

pub returns-then-parts-eq0-clause-value : goal.returns-then-parts-eq0-clause-value
returns-then-parts-eq0-clause-value c =
    let parts = c.float_parts-parts in
    sym (shortest_of_zero binary64 c.args.x parts.result.negative parts.result.mantissa parts.result.power c.if-parts-eq0.true parts.ensures.value)

pub returns-then-parts-eq0-clause-trimmed : goal.returns-then-parts-eq0-clause-trimmed
returns-then-parts-eq0-clause-trimmed c = record { one_way = inl refl; last = λ z. (refl, refl) }

pub returns-clause-shortest : goal.returns-clause-shortest
returns-clause-shortest c = λ steps v.
    let parts = c.float_parts-parts in
    let half = c.half_below-half in
    let same = any_size c.args.x (has_minus c.args.x) parts.result.negative steps (parts.result.mantissa * 2 ^ parts.result.power) (2 ^ 1074) v parts.ensures.value in
    let some : 0 < parts.result.mantissa = omega arith in
    subst (λ x. IsShortest binary64 x c.shortest_of.result.digits c.shortest_of.result.up c.shortest_of.result.down) (sym same)
    (c.shortest_of.ensures.shortest binary64 parts.result.power (is_mantissa parts.result.mantissa parts.result.power half.result some parts.ensures.short parts.ensures.low parts.ensures.normal half.ensures.edge half.ensures.plain))

pub returns-clause-value : goal.returns-clause-value
returns-clause-value c =
    let parts = c.float_parts-parts in
    let half = c.half_below-half in
    let some : 0 < parts.result.mantissa = omega arith in
    let has = is_mantissa parts.result.mantissa parts.result.power half.result some parts.ensures.short parts.ensures.low parts.ensures.normal half.ensures.edge half.ensures.plain in
    c.shortest_of.ensures.value ∙ sym (shortest_of_mantissa binary64 c.args.x parts.result.negative parts.result.mantissa parts.result.power parts.result.power half.result has parts.ensures.value)
