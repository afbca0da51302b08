use Rattle.std.proofs.Common.{◌≡◌, take}
use Rattle.report.specs.Lines.{names_in}
use Rattle.report.proofs.formatted.with_kinds.Given as goal

abbrev pub invariant-loop-column : goal.invariant-loop-column
invariant-loop-column l = names_in l.typed.items ≡ names_in (take l.column-index l.columns)
