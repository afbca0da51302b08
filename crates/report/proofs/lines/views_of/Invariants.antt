use Rattle.std.proofs.Common.{map, take}
use Rattle.std.specs.Prelude.{string_bytes}
use Rattle.report.specs.Lines.{AreShown, kinds_in}
use Rattle.report.proofs.lines.views_of.Given as goal

abbrev pub invariant-loop-at : goal.invariant-loop-at
invariant-loop-at l = AreShown (kinds_in (take l.at l.columns))
    (map string_bytes (take l.at l.entries)) l.views.items
