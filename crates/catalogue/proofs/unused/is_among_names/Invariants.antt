use Rattle.std.proofs.Common.{◌≡◌, drop}
use Rattle.std.specs.{List.list_any, Str.bytes_eq, Str.chars}
use Rattle.interpolator_pieces.specs.NodeNames.{name_texts}
use Rattle.catalogue.proofs.unused.is_among_names.Given as goal

abbrev pub invariant-loop-one : goal.invariant-loop-one
invariant-loop-one l =
    list_any (λ one. bytes_eq one (chars l.name)) (name_texts (drop l.one-index l.names))
    ≡ list_any (λ one. bytes_eq one (chars l.name)) (name_texts l.names)
