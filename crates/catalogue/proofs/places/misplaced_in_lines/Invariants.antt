use Rattle.std.proofs.Common.{◌≡◌, length, string_bytes, take}
use Rattle.std.specs.List.{All}
use Rattle.catalogue.specs.{Files.as_line, Places.IsPlacedLine}
use Rattle.catalogue.proofs.places.misplaced_in_lines.Given as goal

abbrev pub invariant-loop-line : goal.invariant-loop-line
invariant-loop-line l = length (string_bytes l.reported) ≡ 0
    → All (λ line. IsPlacedLine l.escape (as_line line)) (take l.line-index l.lines)
