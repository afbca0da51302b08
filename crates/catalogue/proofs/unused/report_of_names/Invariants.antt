use Rattle.std.proofs.Common.{◌≡◌, ◌++◌, drop, map, string_bytes}
use Rattle.std.specs.List.{concat}
use Rattle.words.specs.Items.{texts_of}
use Rattle.catalogue.specs.Unused.{reported_unused}
use Rattle.catalogue.proofs.unused.report_of_names.Given as goal

abbrev pub invariant-loop-name : goal.invariant-loop-name
invariant-loop-name l =
    let tells = reported_unused l.file in
    string_bytes l.reported ++ concat (map tells (texts_of (drop l.name-index l.names)))
    ≡ concat (map tells (texts_of l.names))
