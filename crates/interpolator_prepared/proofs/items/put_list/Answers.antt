use Rattle.std.proofs.lemmas.Result.{err_from_is_err_and}
use Rattle.interpolator_eval.specs.{Slots.slots_of, Escaping.shows_by}
use Rattle.interpolator_eval.proofs.MeaningLemmas.SinkLemmas.{and_then, fault_first}
use Rattle.interpolator_prepared.proofs.ItemLemmas.{none_within, some_within}
use Rattle.interpolator_prepared.proofs.items.put_list.Goals as goal

pub returns-then-is_empty : goal.returns-then-is_empty
returns-then-is_empty g c =
    record {
      outcome = none_within (shows_by g.E.Escaper.shown g.V.Value.shows) slots_of c.args.list.now c.args.items.now _
          c.is_empty.ensures c.if-is_empty.true _;
    }

pub returns-in_err-put_end : goal.returns-in_err-put_end
returns-in_err-put_end g c =
    let err = err_from_is_err_and c.from_residual.result c.from_residual.ensures.1 in
    let some = some_within (shows_by g.E.Escaper.shown g.V.Value.shows) slots_of c.args.list.now c.args.items.now _
    c.is_empty.ensures c.if-is_empty.false in
    rw (err.1, err.2, some) (record { outcome = fault_first _ _ _ _ _ c.in_err-put_end.ensures.outcome })

pub returns-in_err-put_items : goal.returns-in_err-put_items
returns-in_err-put_items g c =
    let residual = c.from_residual-in_err-put_items in
    let err = err_from_is_err_and residual.result residual.ensures.1 in
    let some = some_within (shows_by g.E.Escaper.shown g.V.Value.shows) slots_of c.args.list.now c.args.items.now _
    c.is_empty.ensures c.if-is_empty.false in
    rw (err.1, err.2, some) (record {
      outcome = and_then _ _ _ _ _ _ c.in_ok-put_end.ensures.outcome
          (fault_first _ _ _ _ _ c.in_err-put_items.ensures.outcome);
    })

pub returns : goal.returns
returns g c =
    let some = some_within (shows_by g.E.Escaper.shown g.V.Value.shows) slots_of c.args.list.now c.args.items.now _
    c.is_empty.ensures c.if-is_empty.false in
    rw some (record {
      outcome = and_then _ _ _ _ _ _ c.in_ok-put_end.ensures.outcome
          (and_then _ _ _ _ _ _ c.in_ok-put_items.ensures.outcome c.put_end-2.ensures.outcome);
    })
