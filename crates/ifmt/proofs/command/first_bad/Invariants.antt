use Rattle.std.proofs.Common.{drop, take, List, ℕ}
use Rattle.ifmt.specs.Command.{AllGood, IsFirstBad}
use Rattle.ifmt.proofs.command.first_bad.Given as goal

abbrev pub invariant-loop-word : goal.invariant-loop-word
invariant-loop-word l = record {
  good : AllGood (take l.word-index l.words);
  bad : (text : List ℕ) → IsFirstBad (drop l.word-index l.words) text → IsFirstBad l.words text;
}
