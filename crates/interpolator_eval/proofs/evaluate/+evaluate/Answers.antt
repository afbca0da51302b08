use Rattle.std.proofs.Common.{◌≡◌, [], ◌∷◌, arith, map, rules}
use Rattle.std.proofs.{lemmas.Grind.common_steps, lemmas.Result.err_from_is_err_and}
use Rattle.interpolator_eval.specs.Meaning.Sources.{list_item, list_items, list_join}
use Rattle.interpolator_eval.specs.{Escaping.shows_by, Slots.slots_of}
use Rattle.interpolator_eval.specs.Meaning.CodeEnvironments.{environment_of}
use Rattle.interpolator_eval.proofs.MeaningLemmas.ListLemmas.{first_passed, item_passed, item_stops}
use Rattle.interpolator_eval.proofs.MeaningLemmas.ListLemmas.{items_done, join_stops, one_item}
use Rattle.interpolator_eval.proofs.MeaningLemmas.PlainItemLemmas.{item_framed, item_framed_pieces}
use Rattle.interpolator_eval.proofs.MeaningLemmas.ScanLemmas.{brace_fault}
use Rattle.interpolator_eval.proofs.MeaningLemmas.SinkLemmas.{fault_first, same_end, whole_fault}
use Rattle.interpolator_eval.proofs.MeaningLemmas.SinkLemmas.{whole_refused}
use Rattle.interpolator_eval.proofs.MeaningLemmas.SourceLemmas.{all_done, before_ends}
use Rattle.interpolator_eval.proofs.MeaningLemmas.SourceLemmas.{first_smaller, list_ends}
use Rattle.interpolator_eval.proofs.MeaningLemmas.SourceLemmas.{list_passed, rest_smaller}
use Rattle.interpolator_eval.proofs.evaluate.+evaluate.Goals as goal

-- ---- the items of a list

pub evaluator::write_padded_list-returns-then-refused-clause-writes :
    goal.evaluator::write_padded_list-returns-then-refused-clause-writes
evaluator::write_padded_list-returns-then-refused-clause-writes g t c =
    let e = environment_of g.C.Context.finds c.args.environment.now in
    let asked = g.S.FormatSource.asks c.args.list.now in
    let shows = shows_by g.E.Escaper.shown g.C.Object.Value.shows in
    let all = list_items shows e asked (map slots_of c.args.items.now) in
    record { outcome = whole_refused _ _ all _; same = same_end c.args.sink.now }

pub evaluator::write_padded_list-returns-in_err-answer-in-Buffer-clause-writes :
    goal.evaluator::write_padded_list-returns-in_err-answer-in-Buffer-clause-writes
evaluator::write_padded_list-returns-in_err-answer-in-Buffer-clause-writes g t c =
    let err = err_from_is_err_and c.from_residual.result c.from_residual.ensures.1 in
    rw (err.1, err.2) (record {
      outcome = whole_fault _ _ _ _ _ _ _ (search rules)
          (rw c.in-Buffer.is at c.in_err-answer-in-Buffer.ensures.writes.outcome);
      same = same_end c.args.sink.now;
    })

pub items::write_each-returns-in_err-write_item-clause-writes :
    goal.items::write_each-returns-in_err-write_item-clause-writes
items::write_each-returns-in_err-write_item-clause-writes g t c =
    let err = err_from_is_err_and c.from_residual.result c.from_residual.ensures.1 in
    let split : c.args.items.now ≡ c.in-Some.first.now ∷ c.in-Some.rest.now = search rules in
    let o = c.in_err-write_item.ensures.writes in
    rw (err.1, err.2, split)
    (record { outcome = fault_first _ _ _ _ _ o.outcome; same = o.same })

pub items::write_each-returns-in_err-write_item-clause-visited :
    goal.items::write_each-returns-in_err-write_item-clause-visited
items::write_each-returns-in_err-write_item-clause-visited g t c =
    grind (arith, c.in_err-write_item.ensures.visited)

pub items::write_each-loop-item-init : goal.items::write_each-loop-item-init
items::write_each-loop-item-init g t c =
    first_passed _ _ _ _ _ slots_of c.args.items.now c.in-Some.first.now c.in-Some.rest.now _ _
    (search rules) _ _ c.in_ok-write_item.ensures.writes c.in_ok-write_item.ensures.exact

pub items::write_each-returns-in_err-write_join : goal.items::write_each-returns-in_err-write_join
items::write_each-returns-in_err-write_join g t c =
    let residual = c.from_residual-in_err-write_join in
    let err = err_from_is_err_and residual.result residual.ensures.1 in
    let stops = join_stops _ _ c.loop-item.invariant c.loop-item-test.true c.item-item.is
    c.in_err-write_join.ensures.writes c.in_err-write_join.ensures.visited in
    rw (err.1, err.2) (record { writes = stops.0; visited = stops.1; exact = tt })

pub items::write_each-returns-in_err-write_item-2 : goal.items::write_each-returns-in_err-write_item-2
items::write_each-returns-in_err-write_item-2 g t c =
    let residual = c.from_residual-in_err-write_item-2 in
    let err = err_from_is_err_and residual.result residual.ensures.1 in
    let join = c.in_ok-write_join.ensures in
    let item = c.in_err-write_item-2.ensures in
    let stops = item_stops _ _ c.loop-item.invariant c.loop-item-test.true c.item-item.is
    join.writes join.exact item.writes item.visited in
    rw (err.1, err.2) (record { writes = stops.0; visited = stops.1; exact = tt })

pub items::write_each-loop-item-preserved : goal.items::write_each-loop-item-preserved
items::write_each-loop-item-preserved g t c =
    let join = c.in_ok-write_join.ensures in
    let item = c.in_ok-write_item-2.ensures in
    item_passed _ _ c.loop-item.invariant c.loop-item-test.true c.item-item.is
    join.writes join.exact item.writes item.exact

pub items::write_each-returns : goal.items::write_each-returns
items::write_each-returns g t c =
    let done = items_done _ _ c.loop-item.invariant c.loop-item-test.false in
    record { writes = done.0; visited = omega (arith, done.1); exact = done.1 }

pub items::write_item-returns-in-Some-clause-writes : goal.items::write_item-returns-in-Some-clause-writes
items::write_item-returns-in-Some-clause-writes g t c =
    let asked = g.S.FormatSource.asks c.args.list.now in
    let plain = rw c.in-Some.is at c.requires.plain in
    rw (item_framed _ _ _ c.in-Some.plain asked plain) c.write_by_plain_format.ensures.writes

pub items::write_item-returns-in-Some-clause-visited : goal.items::write_item-returns-in-Some-clause-visited
items::write_item-returns-in-Some-clause-visited g t c =
    let asked = g.S.FormatSource.asks c.args.list.now in
    let plain = rw c.in-Some.is at c.requires.plain in
    rw (item_framed_pieces _ _ _ c.in-Some.plain asked plain) c.write_by_plain_format.ensures.visited

pub items::write_item-returns-in-Some-clause-exact : goal.items::write_item-returns-in-Some-clause-exact
items::write_item-returns-in-Some-clause-exact g t c =
    let asked = g.S.FormatSource.asks c.args.list.now in
    let plain = rw c.in-Some.is at c.requires.plain in
    rw (item_framed_pieces _ _ _ c.in-Some.plain asked plain) c.write_by_plain_format.ensures.exact

-- ---- a list that was met

pub evaluator::write_list-returns-in-len1-clause-writes : goal.evaluator::write_list-returns-in-len1-clause-writes
evaluator::write_list-returns-in-len1-clause-writes g t c =
    let shows = shows_by g.E.Escaper.shown g.C.Object.Value.shows in
    let e = environment_of g.C.Context.finds c.args.environment.now in
    let asked = g.S.FormatSource.asks c.args.list.now in
    let item = c.item-item.result in
    let one : map slots_of c.in_ok-items.items.now ≡ slots_of item ∷ []
    = grind (arith, common_steps) in
    let whole = one_item g.W.TextWrite.written (list_join shows e asked) (list_item shows e asked)
    _ (slots_of item) _ _ _ one c.write_formatted.ensures.writes in
    search rules

pub evaluator::write_argument-returns-in_err-write_list-clause-writes :
    goal.evaluator::write_argument-returns-in_err-write_list-clause-writes
evaluator::write_argument-returns-in_err-write_list-clause-writes g t c =
    let err = err_from_is_err_and c.from_residual.result c.from_residual.ensures.1 in
    let o = c.in_err-write_list.ensures.writes in
    rw (err.1, err.2) (record { outcome = brace_fault _ _ _ _ _ _ o.outcome; same = o.same })

-- ---- a source, list by list

pub evaluator::write_source-returns-in_err-write_to_list : goal.evaluator::write_source-returns-in_err-write_to_list
evaluator::write_source-returns-in_err-write_to_list g t c =
    let err = err_from_is_err_and c.from_residual.result c.from_residual.ensures.1 in
    let before = c.in_err-write_to_list.ensures in
    let ends = before_ends c.loop-sink.invariant.passed before.writes
    (omega (arith, before.visited)) in
    rw (err.1, err.2) (record { writes = ends.0; visited = ends.1; exact = tt })

pub evaluator::write_source-write_argument-requires : goal.evaluator::write_source-write_argument-requires
evaluator::write_source-write_argument-requires g t c κs within =
    let met = rw c.if-branch.true at c.in_ok-write_to_list.ensures.met in
    let xs = g.S.FormatSource.tree c.loop-sink.here in
    let smaller = first_smaller _ _ xs met.1 in
    let most = c.loop-sink.invariant.within in (
      search (rules, smaller, most),
      (
        within.0,
        (
          within.1.0,
          (
            within.1.1.0,
            (
              within.1.1.1.0,
              (
                within.1.1.1.1.0,
                (within.1.1.1.1.1.0, (within.1.1.1.1.1.1, met.0)),
              ),
            ),
          ),
        ),
      ),
    )

pub evaluator::write_source-returns-in_err-here : goal.evaluator::write_source-returns-in_err-here
evaluator::write_source-returns-in_err-here g t c =
    let residual = c.from_residual-in_err-here in
    let err = err_from_is_err_and residual.result residual.ensures.1 in
    let before = rw c.if-branch.true at c.in_ok-write_to_list.ensures in
    let ends = list_ends c.loop-sink.invariant.passed before.writes before.met.1 before.exact
    c.in_err-here.ensures.writes c.in_err-here.ensures.visited in
    rw (err.1, err.2) (record { writes = ends.0; visited = ends.1; exact = tt })

pub evaluator::write_source-loop-sink-smaller : goal.evaluator::write_source-loop-sink-smaller
evaluator::write_source-loop-sink-smaller g t c =
    let met = rw c.if-branch.true at c.in_ok-write_to_list.ensures.met in
    rest_smaller _ _ _ _ met.1 c.in_ok-here.ensures.rest

pub evaluator::write_source-loop-sink-preserved : goal.evaluator::write_source-loop-sink-preserved
evaluator::write_source-loop-sink-preserved g t c =
    let before = rw c.if-branch.true at c.in_ok-write_to_list.ensures in
    let here = c.in_ok-here.ensures in
    let xs = g.S.FormatSource.tree c.loop-sink.here in
    record {
      within =
          omega (arith, c.loop-sink.invariant.within, rest_smaller _ _ _ xs before.met.1 here.rest);
      passed = list_passed c.loop-sink.invariant.passed before.writes before.met.1 before.exact
          here.rest here.writes here.exact;
    }

pub evaluator::write_source-returns : goal.evaluator::write_source-returns
evaluator::write_source-returns g t c =
    let before = rw c.if-branch.false at c.in_ok-write_to_list.ensures in
    let done = all_done c.loop-sink.invariant.passed before.writes before.met
    (omega (arith, before.exact)) in
    record { writes = done.0; visited = omega (arith, done.1); exact = done.1 }
