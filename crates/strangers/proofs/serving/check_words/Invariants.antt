use Rattle.std.proofs.Common.{◌≡◌, All, drop, take}
use Rattle.strangers.specs.{Serving.words_why, Values.AreInRange}
use Rattle.strangers.proofs.serving.check_words.Given as goal

abbrev pub invariant-loop-word : goal.invariant-loop-word
invariant-loop-word l = record {
  why : words_why l.limits (drop l.word-index l.words) ≡ words_why l.limits l.words;
  range : All (λ word. AreInRange word.given) (take l.word-index l.words);
}
