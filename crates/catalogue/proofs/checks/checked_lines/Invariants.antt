use Rattle.std.proofs.Common.{◌≡◌, ℕ, List, [], ◌++◌, drop, false, map, string_bytes}
use Rattle.std.specs.Option.{option_map, option_or}
use Rattle.catalogue.specs.{Files.as_line, Forms.as_sought, Forms.first_given, Keys.Remembers}
use Rattle.catalogue.specs.{Sought.as_found, Sought.line_for, FileReports.report_of_lines}
use Rattle.catalogue.proofs.checks.checked_lines.Given as goal

abbrev pub invariant-loop-line : goal.invariant-loop-line
invariant-loop-line l =
    let rest = map as_line (drop l.line-index l.lines) in
    let all = map as_line l.lines in
    record {
      reported : (seen : List (ℕ × List ℕ)) × Remembers seen l.keys
          × (string_bytes l.reported ++ report_of_lines seen l.is_open rest
          ≡ report_of_lines [] false all);
      found : option_or (option_map as_found l.found)
          (first_given (line_for (as_sought l.wanted)) rest)
          ≡ first_given (line_for (as_sought l.wanted)) all;
    }
