use Rattle.std.proofs.Common.{◌≡◌}
use Rattle.std.specs.List.{sum_by}
use Rattle.report.specs.Widths.{width_of}
use Rattle.report.specs.declared.widths.TheConstants.{NONE, TWO}
use Rattle.report.proofs.widths.width.Given as goal

abbrev pub invariant-loop-c : goal.invariant-loop-c
invariant-loop-c l = l.width ≡ sum_by (width_of NONE TWO) l.yielded
