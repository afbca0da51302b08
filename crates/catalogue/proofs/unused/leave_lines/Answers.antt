use Rattle.std.proofs.{Common.map, lemmas.List.at_drop_all, lemmas.List.at_drop_more}
use Rattle.catalogue.specs.{Files.as_line, declared.files.Line.Line as LentLine}
use Rattle.catalogue.proofs.UnusedLemmas.{left_last, left_next}
use Rattle.catalogue.proofs.unused.leave_lines.Goals as goal

pub loop-line-preserved : goal.loop-line-preserved
loop-line-preserved c =
    let next = λ (d : LentLine). at_drop_more (map as_line) c.args.lines.now
    c.loop-line.line-index d c.loop-line-test.true in
    left_next _ _ _ _ _ _ (next _) c.loop-line.invariant c.in_ok-leave_line.ensures.left

pub returns-clause-left : goal.returns-clause-left
returns-clause-left c = left_last _ _ _
    (at_drop_all (map as_line) c.args.lines.now c.loop-line.line-index c.loop-line-test.false)
    c.loop-line.invariant
