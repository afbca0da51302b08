use Rattle.std.proofs.Common.{map, drop, Option}
use Rattle.interpolator_syntax.specs.Faults.{Answer}
use Rattle.interpolator_eval.specs.Meaning.Meanings.{items_after, items_mean, text_alone}
use Rattle.interpolator_eval.specs.{Slots.slots_of, Escaping.shows_by, Meaning.Outcomes.Outcome}
use Rattle.interpolator_render.specs.Writers.{Written}
use Rattle.interpolator_prepared.specs.{Items.value_under, NumberRows.HasText}
use Rattle.interpolator_prepared.specs.StoredSteps.{joined_text}
use Rattle.interpolator_prepared.proofs.items.put_each.Given as goal

-- the row has the text between two items; what was written, and then what the items that are left
-- mean, is what all of them mean
abbrev pub invariant-loop-item : goal.invariant-loop-item
invariant-loop-item g l =
    let between = text_alone (joined_text l.between) in
    let one = value_under (shows_by g.E.Escaper.shown g.V.Value.shows) l.value in
    HasText l.between l.row × ((new : Written) (answer : Option Answer)
    → Outcome (items_after between one (map slots_of (drop l.item-index l.rest)))
    (g.W.TextWrite.written l.out) new answer
    → Outcome (items_mean between one (map slots_of l.items))
    (g.W.TextWrite.written l.fn.out) new answer)
