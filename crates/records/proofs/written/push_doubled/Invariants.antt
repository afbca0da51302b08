use Rattle.std.proofs.Common.{◌≡◌, ◌++◌, length, string_bytes}
use denote.{Text.Utf8, Shadow.shadow}
use Rattle.records.specs.Spellings.{doubled}
use Rattle.records.proofs.written.push_doubled.Given as goal

abbrev pub invariant-loop-front : goal.invariant-loop-front
invariant-loop-front l = shadow (Utf8 l.rest)
    × (string_bytes l.fn.out ++ doubled l.text ≡ string_bytes l.out ++ doubled l.rest)

abbrev pub decreases-loop-front : goal.decreases-loop-front
decreases-loop-front l = length l.rest
