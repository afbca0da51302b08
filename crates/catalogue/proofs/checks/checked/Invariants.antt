use Rattle.std.proofs.Common.{◌≡◌, ◌++◌, drop, map, string_bytes}
use Rattle.std.specs.Option.{option_map, option_or}
use Rattle.catalogue.specs.{Files.as_page, Sought.as_found, Sought.found_among}
use Rattle.catalogue.specs.{FileReports.report_of_files}
use Rattle.catalogue.proofs.checks.checked.Given as goal

abbrev pub invariant-loop-page : goal.invariant-loop-page
invariant-loop-page l = record {
  reported : string_bytes l.reported ++ report_of_files (map as_page (drop l.page-index l.pages))
      ≡ report_of_files (map as_page l.pages);
  found : option_or (option_map as_found l.found)
      (found_among l.objects l.key (map as_page (drop l.page-index l.pages)))
      ≡ found_among l.objects l.key (map as_page l.pages);
}
