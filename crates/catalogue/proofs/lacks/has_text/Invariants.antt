use Rattle.std.proofs.Common.{◌≡◌, drop, map, string_bytes}
use Rattle.catalogue.specs.Lacks.{is_one_of}
use Rattle.catalogue.proofs.lacks.has_text.Given as goal

abbrev pub invariant-loop-one : goal.invariant-loop-one
invariant-loop-one l = is_one_of (map string_bytes (drop l.one-index l.texts)) l.text
    ≡ is_one_of (map string_bytes l.texts) l.text
