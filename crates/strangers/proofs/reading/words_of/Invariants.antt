use Rattle.std.proofs.Common.{List, ℕ, ◌++◌, drop, map, string_bytes}
use Rattle.strangers.specs.{Words.GiveAll, Words.IsFirstBad, declared.values.Word.Word}
use Rattle.strangers.proofs.reading.words_of.Given as goal

-- what is said of the words from here on is said of all
abbrev pub invariant-loop-word : goal.invariant-loop-word
invariant-loop-word l = record {
  given : (more : List Word) → GiveAll (map string_bytes (drop l.word-index l.words)) more
      → GiveAll (map string_bytes l.words) (l.read.items ++ more);
  bad : (text : List ℕ) → IsFirstBad (map string_bytes (drop l.word-index l.words)) text
      → IsFirstBad (map string_bytes l.words) text;
}
