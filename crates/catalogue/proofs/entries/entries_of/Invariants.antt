use Rattle.std.proofs.Common.{◌≡◌, map, take}
use Rattle.catalogue.specs.Entries.{held_by, held_by_entry}
use Rattle.catalogue.proofs.entries.entries_of.Given as goal

abbrev pub invariant-loop-object : goal.invariant-loop-object
invariant-loop-object l =
    map held_by_entry l.entries.items ≡ map held_by (take l.object-index l.objects)
