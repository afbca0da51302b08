use Rattle.std.proofs.Common.{◌≡◌, map, take}
use Rattle.interpolator.specs.{Prepared.Rows.pair_names, Slots.slots_of}
use Rattle.report.specs.Lines.{as_value, names_in}
use Rattle.report.proofs.lines.sample_of.Given as goal

abbrev pub invariant-loop-column : goal.invariant-loop-column
invariant-loop-column l = record {
  names : pair_names l.sample.items ≡ names_in (take l.column-index l.columns);
  values : map (λ pair. slots_of pair.1) l.sample.items
      ≡ map (λ _. as_value l.example) (take l.column-index l.columns);
}
