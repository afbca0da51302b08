use Rattle.std.proofs.Common.{◌≡◌, ◌++◌, drop, filter, map, not, string_bytes}
use Rattle.plurals.specs.Values.{as_form}
use Rattle.catalogue.specs.Lacks.{each_once, is_one_of}
use Rattle.catalogue.proofs.lacks.forms_of.Given as goal

abbrev pub invariant-loop-form : goal.invariant-loop-form
invariant-loop-form l =
    let found = map string_bytes l.found.items in
    found ++ filter (λ text. not (is_one_of found text))
    (each_once (map as_form (drop l.form-index l.form-items)))
    ≡ each_once (map as_form l.form-items)
