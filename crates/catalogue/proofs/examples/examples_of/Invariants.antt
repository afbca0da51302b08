use Rattle.std.proofs.Common.{◌≡◌, map, take}
use Rattle.words.specs.Declarations.{as_declaration}
use Rattle.catalogue.specs.{Entries.held_by, Examples.example_of}
use Rattle.catalogue.proofs.examples.examples_of.Given as goal

abbrev pub invariant-loop-one : goal.invariant-loop-one
invariant-loop-one l =
    map held_by l.objects.items ≡ map example_of (map as_declaration (take l.one-index l.declared))
