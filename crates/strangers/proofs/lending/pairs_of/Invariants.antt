use Rattle.std.proofs.Common.{◌≡◌, map, take}
use Rattle.strangers.specs.Values.{entry_named, pair_named}
use Rattle.strangers.proofs.lending.pairs_of.Given as goal

abbrev pub invariant-loop-entry : goal.invariant-loop-entry
invariant-loop-entry l =
    map pair_named l.pairs.items ≡ map entry_named (take l.entry-index l.entries)
