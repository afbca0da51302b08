use Rattle.std.proofs.Common.{◌≡◌, map, take}
use Rattle.merge.specs.Columns.{as_column, column_of}
use Rattle.records.specs.Spellings.{text_of}
use Rattle.merge.proofs.columns.columns_of.Given as goal

abbrev pub invariant-loop-field : goal.invariant-loop-field
invariant-loop-field l = map as_column l.columns.items
    ≡ map column_of (map text_of (take l.field-index l.fields))
