use Rattle.std.proofs.Common.{◌≡◌, map, take}
use Rattle.merge.proofs.columns.names_of.Given as goal

abbrev pub invariant-loop-column : goal.invariant-loop-column
invariant-loop-column l = map (λ x. x.now) l.names.items
    ≡ map (λ column. column.name.now) (take l.column-index l.columns)
