use Rattle.std.proofs.Common.{◌≡◌, length, string_bytes, take}
use Rattle.std.specs.List.{All}
use Rattle.catalogue.specs.{Files.as_page, Places.IsPlacedFile}
use Rattle.catalogue.proofs.places.misplaced_in.Given as goal

abbrev pub invariant-loop-page : goal.invariant-loop-page
invariant-loop-page l = length (string_bytes l.reported) ≡ 0
    → All (λ page. IsPlacedFile l.escape (as_page page)) (take l.page-index l.pages)
