use Rattle.std.proofs.Common.{◌≡◌, arith, map, string_bytes}
use Rattle.std.proofs.lemmas.Grind.{common_steps}
use Rattle.catalogue.specs.{Files.as_page, Sought.as_found, Sought.found_in}
use Rattle.catalogue.specs.{FileReports.report_of_file}
use Rattle.catalogue.specs.FileReports.{report_of_files}
use Rattle.catalogue.proofs.FirstLemmas.{drop_item, found_next, reported_rest}
use Rattle.catalogue.proofs.SoundLemmas.{clean_files}
use Rattle.catalogue.proofs.checks.checked.Goals as goal

pub loop-page-preserved : goal.loop-page-preserved
loop-page-preserved c =
    let so_far = c.loop-page.invariant in
    let next = drop_item as_page c.args.pages.now c.loop-page.page-index c.page-item.result
    c.loop-page-test.true c.page-item.is in
    record {
      reported = reported_rest report_of_file _ _ _ _ _ _ _ next so_far.reported c.in_ok-of_file.ensures.reported
          (rw c.as_str.ensures.value at c.in_ok-push_str.ensures.bytes);
      found = rw c.or-found.ensures (found_next as_found
          (found_in c.args.objects.now c.args.key.now) _ _ _ _ _ _ next so_far.found
          c.in_ok-of_file.ensures.found);
    }

pub returns-clause-sound : goal.returns-clause-sound
returns-clause-sound c empty =
    let all : string_bytes c.loop-page.reported ≡ report_of_files (map as_page c.args.pages.now) =
    grind (arith, common_steps) in clean_files (map as_page c.args.pages.now) (rw all at empty)
