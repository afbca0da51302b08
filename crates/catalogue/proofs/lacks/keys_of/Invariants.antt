use Rattle.std.proofs.Common.{◌≡◌, ℕ, List, drop, map}
use Rattle.std.specs.Option.{option_or}
use Rattle.catalogue.specs.{Files.as_line, Keys.Remembers, Keys.number_of, Lacks.first_of}
use Rattle.catalogue.proofs.lacks.keys_of.Given as goal

abbrev pub invariant-loop-line : goal.invariant-loop-line
invariant-loop-line l =
    let rest = map as_line (drop l.line-index l.lines) in
    (seen : List (ℕ × List ℕ)) × Remembers seen l.keys
    × ((key : List ℕ) → option_or (number_of seen key) (first_of rest key)
    ≡ first_of (map as_line l.lines) key)
