use Rattle.std.proofs.Common.{◌≡◌, ◌++◌, drop, map, string_bytes}
use Rattle.catalogue.specs.{Files.as_page, FileReports.report_of_absent}
use Rattle.catalogue.proofs.messages.report_of_absent.Given as goal

abbrev pub invariant-loop-page : goal.invariant-loop-page
invariant-loop-page l = string_bytes l.reported ++ report_of_absent l.objects l.key
    (map as_page (drop l.page-index l.pages))
    ≡ report_of_absent l.objects l.key (map as_page l.pages)
