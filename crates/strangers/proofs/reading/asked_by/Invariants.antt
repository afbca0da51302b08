use Rattle.std.proofs.Common.{◌≡◌, length, map, string_bytes}
use Rattle.strangers.specs.Reading.{asked_by, asked_from}
use Rattle.strangers.proofs.reading.asked_by.Given as goal

abbrev pub decreases-loop-first : goal.decreases-loop-first
decreases-loop-first l = length l.rest

abbrev pub invariant-loop-first : goal.invariant-loop-first
invariant-loop-first l =
    asked_from l.allowed (map string_bytes l.rest) ≡ asked_by (map string_bytes l.line)
