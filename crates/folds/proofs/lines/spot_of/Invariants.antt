use Rattle.std.proofs.Common.{◌≡◌, ◌+◌, drop, map}
use Rattle.folds.specs.Lines.{as_spot, spot_from, spot_of}
use Rattle.folds.proofs.lines.spot_of.Given as goal

abbrev pub invariant-loop-next : goal.invariant-loop-next
invariant-loop-next l = record {
  counted : l.index ≡ l.next-index;
  there : spot_from (l.index + 1) (as_spot l.spot)
      (map (λ line. line.now) (drop l.next-index l.rest))
      ≡ spot_of l.line l.begin (map (λ line. line.now) l.rest) l.byte;
}
