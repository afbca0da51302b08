use Rattle.std.proofs.Common.{◌≡◌, map, take}
use Rattle.interpolator.specs.{Prepared.Rows.pair_names, Slots.slots_of}
use Rattle.merge.specs.{Columns.kinds_in, Values.example_by}
use Rattle.merge.proofs.samples.sample_of.Given as goal

abbrev pub invariant-loop-column : goal.invariant-loop-column
invariant-loop-column l = record {
  names : pair_names l.sample.items
      ≡ map (λ column. column.name.now) (take l.column-index l.columns);
  values : map (λ pair. slots_of pair.1) l.sample.items
      ≡ map (example_by l.text l.number) (kinds_in (take l.column-index l.columns));
}
