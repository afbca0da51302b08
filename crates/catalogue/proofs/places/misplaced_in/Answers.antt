use Rattle.std.proofs.{Common.subst, lemmas.List.take_all, lemmas.List.Elements.All-map}
use Rattle.catalogue.specs.{Files.as_page, Places.IsPlacedFile}
use Rattle.catalogue.proofs.PlaceLemmas.{placed_more}
use Rattle.catalogue.proofs.places.misplaced_in.Goals as goal

pub loop-page-preserved : goal.loop-page-preserved
loop-page-preserved c =
    placed_more (λ page. IsPlacedFile c.args.escape (as_page page)) c.args.pages.now
    c.loop-page.page-index c.page-item.result _ _ _ c.loop-page-test.true c.loop-page.invariant
    (λ none. subst (λ page. IsPlacedFile c.args.escape (as_page page)) c.page-item.is
    (c.in_ok-more.ensures none)) (rw c.as_str.ensures.value at c.in_ok-push_str.ensures.bytes)

pub returns : goal.returns
returns c empty = All-map (IsPlacedFile c.args.escape) as_page c.args.pages.now
    (rw (take_all c.loop-page.page-index c.args.pages.now c.loop-page-test.false) at
    (c.loop-page.invariant empty))
