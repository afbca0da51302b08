use Rattle.std.proofs.Common.{◌≡◌, ◌++◌, drop, map, take}
use Rattle.merge.specs.{Names.Knows, Table.repeats, Table.repeats_after}
use Rattle.merge.proofs.table.repeats_of.Given as goal

abbrev pub invariant-loop-before : goal.invariant-loop-before
invariant-loop-before l = record {
  knows : Knows l.seen (map (λ column. column.name.now) (take l.before l.columns));
  reported : l.faults.items
      ++ repeats_after (map (λ column. column.name.now) (take l.before l.columns))
      (map (λ column. column.name.now) (drop l.before l.columns))
      ≡ repeats (map (λ column. column.name.now) l.columns);
}
