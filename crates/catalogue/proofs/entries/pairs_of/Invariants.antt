use Rattle.std.proofs.Common.{◌≡◌, map, take}
use Rattle.catalogue.specs.Entries.{held_by_entry, held_by_pair}
use Rattle.catalogue.proofs.entries.pairs_of.Given as goal

abbrev pub invariant-loop-entry : goal.invariant-loop-entry
invariant-loop-entry l =
    map held_by_pair l.pairs.items ≡ map held_by_entry (take l.entry-index l.entries)
