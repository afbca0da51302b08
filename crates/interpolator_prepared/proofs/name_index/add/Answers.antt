use Rattle.interpolator_prepared.proofs.RowLemmas.{one_more}
use Rattle.interpolator_prepared.proofs.name_index.add.Goals as goal

pub returns : goal.returns
returns c = record {
  added = λ names counts so_far.
      rw (← c.as_str.ensures.value)
      (one_more names c.as_str.result.now c.args.position c.args.positions.now c.insert.new.self
      counts so_far c.in_ok-insert.ensures.updates.0);
}
