use Rattle.std.proofs.Common.{◌≡◌, take}
use Rattle.report.specs.Totals.{greatest_scale}
use Rattle.report.proofs.totals.greatest_scale.Given as goal

abbrev pub invariant-loop-number : goal.invariant-loop-number
invariant-loop-number l = l.scale ≡ greatest_scale (take l.number-index l.numbers)
