use Rattle.std.proofs.Common.{◌≡◌, ◌+◌, ◌≤◌, drop}
use Rattle.records.specs.Places.{place_after}
use Rattle.records.proofs.place.place_after.Given as goal

abbrev pub invariant-loop-byte : goal.invariant-loop-byte
invariant-loop-byte l = record {
  line : l.place.line ≤ l.line + l.byte-index;
  column : l.place.column ≤ 1 + l.byte-index;
  rest : place_after l.place (drop l.byte-index l.text)
      ≡ place_after (record { line = l.line; column = 1 }) l.text;
}
