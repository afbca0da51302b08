use Rattle.interpolator_eval.proofs.MeaningLemmas.SinkLemmas.{nothing_done}
use Rattle.interpolator_prepared.proofs.ItemLemmas.{empty_text}
use Rattle.interpolator_prepared.proofs.items.put_end.Goals as goal

pub returns-then-is_empty : goal.returns-then-is_empty
returns-then-is_empty g c =
    rw (empty_text c.args.joined.now c.as_str.result.now _ c.as_str.ensures.value c.is_empty.ensures c.if-is_empty.true)
    (record { outcome = nothing_done _ })
