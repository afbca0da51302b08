use Rattle.catalogue.specs.{Files.as_page, FileReports.reported_absent}
use Rattle.catalogue.proofs.FirstLemmas.{drop_item, reported_rest}
use Rattle.catalogue.proofs.messages.report_of_absent.Goals as goal

pub loop-page-preserved : goal.loop-page-preserved
loop-page-preserved c = reported_rest (reported_absent c.args.objects.now c.args.key.now) _ _ _ _ _ _ _
    (drop_item as_page c.args.pages.now c.loop-page.page-index c.page-item.result
    c.loop-page-test.true c.page-item.is) c.loop-page.invariant c.in_ok-more.ensures.reported
    (rw c.as_str.ensures.value at c.in_ok-push_str.ensures.bytes)
