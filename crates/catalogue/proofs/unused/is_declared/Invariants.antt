use Rattle.std.proofs.Common.{◌≡◌, drop, map}
use Rattle.words.specs.Declarations.{as_declaration}
use Rattle.catalogue.specs.Declarations.{is_among}
use Rattle.catalogue.proofs.unused.is_declared.Given as goal

abbrev pub invariant-loop-one : goal.invariant-loop-one
invariant-loop-one l = is_among (map as_declaration (drop l.one-index l.declared)) l.name
    ≡ is_among (map as_declaration l.declared) l.name
