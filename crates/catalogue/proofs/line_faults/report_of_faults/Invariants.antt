use Rattle.std.proofs.Common.{◌≡◌, ◌++◌, drop, map, string_bytes}
use Rattle.interpolator.specs.Faults.{answer_of}
use Rattle.catalogue.specs.{Files.as_line, FileReports.report_of_faults}
use Rattle.catalogue.proofs.line_faults.report_of_faults.Given as goal

abbrev pub invariant-loop-error : goal.invariant-loop-error
invariant-loop-error l = string_bytes l.reported ++ report_of_faults (as_line l.line) l.format
    (map answer_of (drop l.error-index l.errors))
    ≡ report_of_faults (as_line l.line) l.format (map answer_of l.errors)
