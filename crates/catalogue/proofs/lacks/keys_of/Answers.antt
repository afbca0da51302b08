use Rattle.std.proofs.{Common.map, lemmas.List.at_drop_more}
use Rattle.catalogue.specs.{Files.as_line, declared.files.Line.Line as LentLine}
use Rattle.catalogue.proofs.FormLemmas.{one_more_key}
use Rattle.catalogue.proofs.lacks.keys_of.Goals as goal

pub loop-line-preserved : goal.loop-line-preserved
loop-line-preserved c =
    let so_far = c.loop-line.invariant in
    let seen = so_far.0 in
    let next = λ (d : LentLine). at_drop_more (map as_line) c.args.lines.now
    c.loop-line.line-index d c.loop-line-test.true in (
      _,
      rw c.key_of.ensures at (c.in_ok-add_key.ensures seen so_far.1),
      λ key. one_more_key seen _ _ _ _ key (next _) (so_far.2 key),
    )
