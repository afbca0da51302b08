use Rattle.std.proofs.Common.{◌≡◌, map, take}
use Rattle.catalogue.specs.Files.{as_page, page_of}
use Rattle.catalogue.proofs.files.pages_of.Given as goal

abbrev pub invariant-loop-file : goal.invariant-loop-file
invariant-loop-file l = map as_page l.pages.items ≡ map page_of (take l.file-index l.files)
