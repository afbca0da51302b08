use Rattle.std.proofs.Common.{◌≡◌, ◌++◌, List, drop, map, string_bytes}
use Rattle.words.specs.Items.{texts_of}
use Rattle.catalogue.specs.{Files.Line, Lacks.HasFirsts, Lacks.lacking}
use Rattle.catalogue.proofs.lacks.lacking.Given as goal

abbrev pub invariant-loop-form : goal.invariant-loop-form
invariant-loop-form l = (lines : List Line) → HasFirsts lines l.keys
    → texts_of l.found.items ++ lacking lines l.key (map string_bytes (drop l.form-index l.forms))
    ≡ lacking lines l.key (map string_bytes l.forms)
