use Rattle.std.proofs.{lemmas.List.take_all, lemmas.List.Elements.All-map}
use Rattle.catalogue.specs.{Files.as_line, Places.IsPlacedLine}
use Rattle.catalogue.proofs.PlaceLemmas.{placed_more}
use Rattle.catalogue.proofs.places.misplaced_in_lines.Goals as goal

pub loop-line-preserved : goal.loop-line-preserved
loop-line-preserved c =
    placed_more (λ line. IsPlacedLine c.args.escape (as_line line)) c.args.lines.now
    c.loop-line.line-index _ _ _ _ c.loop-line-test.true c.loop-line.invariant
    c.in_ok-more.ensures (rw c.as_str.ensures.value at c.in_ok-push_str.ensures.bytes)

pub returns : goal.returns
returns c empty = All-map (IsPlacedLine c.args.escape) as_line c.args.lines.now
    (rw (take_all c.loop-line.line-index c.args.lines.now c.loop-line-test.false) at
    (c.loop-line.invariant empty))
