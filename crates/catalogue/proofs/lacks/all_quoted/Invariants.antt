use Rattle.std.proofs.Common.{◌≡◌, ◌++◌, drop, map, string_bytes}
use Rattle.std.specs.List.{concat}
use Rattle.words.specs.Items.{texts_of}
use Rattle.catalogue.specs.Lacks.{all_quoted, with_comma}
use Rattle.catalogue.proofs.lacks.all_quoted.Given as goal

abbrev pub invariant-loop-text : goal.invariant-loop-text
invariant-loop-text l =
    string_bytes l.reported ++ concat (map with_comma (texts_of (drop l.text-index l.more)))
    ≡ all_quoted l.first (texts_of l.more)
