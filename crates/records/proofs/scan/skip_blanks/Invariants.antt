use Rattle.std.proofs.Common.{◌≡◌, ◌++◌, ℕ, List, length}
use denote.{Text.Utf8, Shadow.shadow}
use Rattle.records.specs.Spellings.{AreBlanks}
use Rattle.records.proofs.scan.skip_blanks.Given as goal

abbrev pub invariant-loop-after : goal.invariant-loop-after
invariant-loop-after l = shadow (Utf8 l.rest)
    × ((blanks : List ℕ) × AreBlanks blanks × (l.text ≡ blanks ++ l.rest))

abbrev pub decreases-loop-after : goal.decreases-loop-after
decreases-loop-after l = length l.rest
