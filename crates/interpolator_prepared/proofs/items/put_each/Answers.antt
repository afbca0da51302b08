use Rattle.std.proofs.Common.{◌≡◌, ◌∷◌, rules}
use Rattle.std.proofs.{lemmas.List.drop_all, lemmas.Result.err_from_is_err_and}
use Rattle.interpolator_eval.specs.Slots.{slots_of}
use Rattle.interpolator_eval.proofs.MeaningLemmas.MeaningLemmas.{joined_assoc}
use Rattle.interpolator_eval.proofs.MeaningLemmas.SinkLemmas.{and_then, fault_first, nothing_done}
use Rattle.interpolator_prepared.proofs.ItemLemmas.{next_item}
use Rattle.interpolator_prepared.proofs.items.put_each.Goals as goal

pub returns-in_err-put_item : goal.returns-in_err-put_item
returns-in_err-put_item g c =
    let err = err_from_is_err_and c.from_residual.result c.from_residual.ensures.1 in
    let split : c.args.items.now ≡ c.in-Some.first.now ∷ c.in-Some.rest.now = search rules in
    rw (err.1, err.2, split)
    (record { outcome = fault_first _ _ _ _ _ c.in_err-put_item.ensures.outcome })

pub loop-item-init : goal.loop-item-init
loop-item-init g c =
    let split : c.args.items.now ≡ c.in-Some.first.now ∷ c.in-Some.rest.now = search rules in
    (c.row_of-row.ensures.row, λ new answer k. rw split (and_then _ _ _ _ _ _ c.in_ok-put_item.ensures.outcome k))

pub returns-in_err-put_next : goal.returns-in_err-put_next
returns-in_err-put_next g c =
    let residual = c.from_residual-in_err-put_next in
    let err = err_from_is_err_and residual.result residual.ensures.1 in
    let next = next_item slots_of c.in-Some.rest.now _ _ c.loop-item-test.true c.item-item.is in
    rw (err.1, err.2) (record {
      outcome = c.loop-item.invariant.1 _ _ (rw (next, ← joined_assoc)
          (fault_first _ _ _ _ _ c.in_err-put_next.ensures.outcome));
    })

pub loop-item-preserved : goal.loop-item-preserved
loop-item-preserved g c =
    let next = next_item slots_of c.in-Some.rest.now _ _ c.loop-item-test.true c.item-item.is in (
      c.in_ok-put_next.ensures.row,
      λ new answer k. c.loop-item.invariant.1 new answer
          (rw (next, ← joined_assoc) (and_then _ _ _ _ _ _ c.in_ok-put_next.ensures.outcome k)),
    )

pub returns : goal.returns
returns g c =
    let none = drop_all _ c.in-Some.rest.now c.loop-item-test.false in
    record { outcome = c.loop-item.invariant.1 _ _ (rw none (nothing_done _)) }
