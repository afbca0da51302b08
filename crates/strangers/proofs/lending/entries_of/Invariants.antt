use Rattle.std.proofs.Common.{◌≡◌, map, take}
use Rattle.strangers.specs.Values.{entry_named, word_named}
use Rattle.strangers.proofs.lending.entries_of.Given as goal

abbrev pub invariant-loop-word : goal.invariant-loop-word
invariant-loop-word l =
    map entry_named l.entries.items ≡ map word_named (take l.word-index l.words)
