use Rattle.std.proofs.Common.{◌≡◌, ◌++◌, drop, map, string_bytes}
use Rattle.folds.specs.Lines.{folded}
use Rattle.folds.proofs.lines.written.Given as goal

abbrev pub invariant-loop-line : goal.invariant-loop-line
invariant-loop-line l =
    string_bytes l.all ++ folded (map (λ line. line.now) (drop l.line-index l.rest))
    ≡ l.first ++ folded (map (λ line. line.now) l.rest)
