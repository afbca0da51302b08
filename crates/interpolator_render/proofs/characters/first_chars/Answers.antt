use Rattle.std.proofs.Common.{arith, sym, ◌≡◌, take_all, chars}
use Rattle.interpolator_render.proofs.CharacterLemmas.{walked_none, walked_more, walked_end}
use Rattle.interpolator_render.proofs.CharacterLemmas.{walked_boundary, walked_all, walked_count}
use Rattle.interpolator_render.proofs.characters.first_chars.Goals as goal
use Rattle.std.proofs.lemmas.Slice.{between_from_start}

pub walk-init : goal.walk-init
walk-init c = rw c.chars-rest.ensures.rest (walked_none c.args.text.now c.utf8.text)

pub walk-preserved : goal.walk-preserved
walk-preserved c = grind (arith, walked_more)

pub range-requires-clause-end_boundary : goal.range-requires-clause-end_boundary
range-requires-clause-end_boundary c = rw c.as_str.ensures (walked_boundary _ _ _ c.walk.invariant)

pub returns-clause-text : goal.returns-clause-text
returns-clause-text c = grind (arith, between_from_start, walked_end)

pub returns-clause-count : goal.returns-clause-count
returns-clause-count c = let e : c.walk.done ≡ c.args.count = omega arith in
    rw (c.range.ensures.value, between_from_start, c.as_str.ensures)
    (sym (walked_count _ _ c.args.count (rw e at c.walk.invariant)))

pub returns-in_default-clause-text : goal.returns-in_default-clause-text
returns-in_default-clause-text c =
    let whole = walked_all _ _ _ c.in_default.ensures.steps.0.0 c.walk.invariant in
    sym (take_all _ (chars c.args.text.now) (omega arith))

pub returns-in_default-clause-count : goal.returns-in_default-clause-count
returns-in_default-clause-count c =
    sym (walked_all _ _ _ c.in_default.ensures.steps.0.0 c.walk.invariant)
