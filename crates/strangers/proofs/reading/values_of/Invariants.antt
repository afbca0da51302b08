use Rattle.std.proofs.Common.{◌≡◌, map, take}
use Rattle.strangers.specs.Words.{are_texts, text_in}
use Rattle.words.specs.Items.{texts_of}
use Rattle.strangers.proofs.reading.values_of.Given as goal

abbrev pub invariant-loop-text : goal.invariant-loop-text
invariant-loop-text l =
    map text_in l.values.items ≡ are_texts (texts_of (take l.text-index l.texts))
