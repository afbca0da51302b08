use Rattle.std.proofs.Common.{◌≡◌, drop, filter, map, not, string_bytes}
use Rattle.words.specs.Items.{texts_of}
use Rattle.catalogue.specs.{Files.page_of, Unused.is_used_in, Unused.unused}
use Rattle.catalogue.proofs.unused.unused.Given as goal

abbrev pub invariant-loop-file : goal.invariant-loop-file
invariant-loop-file l =
    filter (λ name. not (is_used_in (map page_of (drop l.file-index l.files)) name))
    (texts_of l.left.items)
    ≡ unused (map page_of l.files) (map string_bytes l.words)
