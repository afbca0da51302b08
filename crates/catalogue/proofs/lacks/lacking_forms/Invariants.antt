use Rattle.std.proofs.Common.{◌≡◌, ◌++◌, drop, map, string_bytes}
use Rattle.catalogue.specs.{Files.page_of, Lacks.lacking_in_files}
use Rattle.catalogue.proofs.lacks.lacking_forms.Given as goal

abbrev pub invariant-loop-file : goal.invariant-loop-file
invariant-loop-file l =
    string_bytes l.reported ++ lacking_in_files (map page_of (drop l.file-index l.files))
    ≡ lacking_in_files (map page_of l.files)
