use Rattle.std.proofs.Common.{◌≡◌, ◌++◌, length, string_bytes}
use denote.{Text.Utf8, Shadow.shadow}
use Rattle.records.specs.Spellings.{doubled}
use Rattle.records.proofs.quoted.undoubled.Given as goal

abbrev pub invariant-loop-front : goal.invariant-loop-front
invariant-loop-front l = shadow (Utf8 l.rest)
    × (l.text ≡ doubled (string_bytes l.field) ++ l.rest)

abbrev pub decreases-loop-front : goal.decreases-loop-front
decreases-loop-front l = length l.rest
