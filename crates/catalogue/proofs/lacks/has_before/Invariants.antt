use Rattle.std.proofs.Common.{◌≡◌, List, drop, map, string_bytes}
use Rattle.catalogue.specs.{Files.Line, Lacks.HasFirsts, Lacks.has_before}
use Rattle.catalogue.proofs.lacks.has_before.Given as goal

abbrev pub invariant-loop-form : goal.invariant-loop-form
invariant-loop-form l = (lines : List Line) → HasFirsts lines l.keys
    → has_before lines l.number l.key (map string_bytes (drop l.form-index l.forms))
    ≡ has_before lines l.number l.key (map string_bytes l.forms)
