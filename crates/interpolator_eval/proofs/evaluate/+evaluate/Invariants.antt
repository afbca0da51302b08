use Rattle.std.proofs.Common.{◌+◌, ◌*◌, ◌≤◌, drop}
use Rattle.interpolator_eval.specs.Meaning.Sources.{list_join, list_join_work, list_item}
use Rattle.interpolator_eval.specs.Meaning.Sources.{list_item_work}
use Rattle.interpolator_eval.specs.{Escaping.shows_by, Slots.slots_of}
use Rattle.interpolator_eval.specs.Meaning.CodeEnvironments.{environment_of}
use Rattle.interpolator_eval.proofs.MeaningLemmas.ListLemmas.{ItemsPassed}
use Rattle.interpolator_eval.proofs.MeaningLemmas.SourceLemmas.{ListsPassed, asked_size}
use Rattle.interpolator_eval.proofs.MeaningLemmas.SourceLemmas.{forest_size}
use Rattle.interpolator_eval.proofs.evaluate.+evaluate.Given as goal

-- sixteen times the pieces that are left, those of groups among them
abbrev pub decreases-evaluator::write_source : goal.decreases-evaluator::write_source
decreases-evaluator::write_source g l = 16 * forest_size (g.S.FormatSource.tree l.source) + 8

abbrev pub decreases-evaluator::write_argument : goal.decreases-evaluator::write_argument
decreases-evaluator::write_argument g l = 16 * asked_size (g.S.FormatSource.asks l.list.now) + 7

abbrev pub decreases-evaluator::write_list : goal.decreases-evaluator::write_list
decreases-evaluator::write_list g l = 16 * asked_size (g.S.FormatSource.asks l.list.now) + 6

abbrev pub decreases-evaluator::write_padded_list : goal.decreases-evaluator::write_padded_list
decreases-evaluator::write_padded_list g l = 16 * asked_size (g.S.FormatSource.asks l.list.now) + 5

abbrev pub decreases-items::write_several : goal.decreases-items::write_several
decreases-items::write_several g l = 16 * asked_size (g.S.FormatSource.asks l.list.now) + 5

abbrev pub decreases-items::write_items : goal.decreases-items::write_items
decreases-items::write_items g l = 16 * asked_size (g.S.FormatSource.asks l.list.now) + 4

abbrev pub decreases-items::write_plain_items : goal.decreases-items::write_plain_items
decreases-items::write_plain_items g l = 16 * asked_size (g.S.FormatSource.asks l.list.now) + 3

abbrev pub decreases-items::write_each : goal.decreases-items::write_each
decreases-items::write_each g l = 16 * asked_size (g.S.FormatSource.asks l.list.now) + 2

abbrev pub decreases-items::write_item : goal.decreases-items::write_item
decreases-items::write_item g l = 16 * asked_size (g.S.FormatSource.asks l.list.now) + 1

abbrev pub decreases-items::write_formatted : goal.decreases-items::write_formatted
decreases-items::write_formatted g l = 16 * asked_size (g.S.FormatSource.asks l.list.now)

abbrev pub decreases-items::write_join : goal.decreases-items::write_join
decreases-items::write_join g l = 16 * asked_size (g.S.FormatSource.asks l.list.now) + 1

abbrev pub decreases-items::write_formatted_join : goal.decreases-items::write_formatted_join
decreases-items::write_formatted_join g l = 16 * asked_size (g.S.FormatSource.asks l.list.now)

-- the pieces left are no more than all of them, and the others have been written
abbrev pub invariant-evaluator::write_source-loop-sink : goal.invariant-evaluator::write_source-loop-sink
invariant-evaluator::write_source-loop-sink g l =
    let tree = g.S.FormatSource.tree in
    let shows = shows_by g.E.Escaper.shown g.C.Object.Value.shows in
    let e = environment_of g.C.Context.finds l.environment in
    record {
      within : forest_size (tree l.here) ≤ forest_size (tree l.fn.source);
      passed : ListsPassed shows e
          g.W.TextWrite.written (tree l.fn.source) (tree l.here) l.fn.sink l.sink l.fn.count
          l.count;
    }

abbrev pub decreases-evaluator::write_source-loop-sink : goal.decreases-evaluator::write_source-loop-sink
decreases-evaluator::write_source-loop-sink g l = forest_size (g.S.FormatSource.tree l.here)

-- the items before those left have been written
abbrev pub invariant-items::write_each-loop-item : goal.invariant-items::write_each-loop-item
invariant-items::write_each-loop-item g l =
    let shows = (shows_by g.E.Escaper.shown g.C.Object.Value.shows) in
    let e = environment_of g.C.Context.finds l.environment in
    let asked = g.S.FormatSource.asks l.list in
    ItemsPassed g.W.TextWrite.written (list_join shows e asked) (list_join_work shows e asked)
    (list_item shows e asked) (list_item_work shows e asked) slots_of l.items
    (drop l.item-index l.rest) l.fn.sink l.sink l.fn.count l.count
