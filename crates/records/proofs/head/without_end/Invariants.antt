use Rattle.std.proofs.Common.{length}
use denote.{Text.Utf8, Shadow.shadow}
use Rattle.records.proofs.EndLemmas.{HasLost}
use Rattle.records.proofs.head.without_end.Given as goal

abbrev pub invariant-loop-rest : goal.invariant-loop-rest
invariant-loop-rest l = shadow (Utf8 l.kept) × HasLost l.text l.kept

abbrev pub decreases-loop-rest : goal.decreases-loop-rest
decreases-loop-rest l = length l.kept
