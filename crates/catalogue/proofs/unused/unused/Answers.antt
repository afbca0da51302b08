use Rattle.std.proofs.{Common.map, lemmas.List.at_drop_all}
use Rattle.catalogue.specs.Files.{page_of}
use Rattle.catalogue.proofs.FirstLemmas.{drop_item}
use Rattle.catalogue.proofs.UnusedLemmas.{left_last_file, left_next_file}
use Rattle.catalogue.proofs.unused.unused.Goals as goal

pub loop-file-preserved : goal.loop-file-preserved
loop-file-preserved c = left_next_file _ _ _ _ _ _
    (drop_item page_of c.args.files.now c.loop-file.file-index c.file-item.result
    c.loop-file-test.true c.file-item.is) c.loop-file.invariant c.in_ok-leave_file.ensures.left

pub returns-clause-reported : goal.returns-clause-reported
returns-clause-reported c = rw (
  c.first_name.ensures,
  c.as_slice.ensures.value,
  left_last_file _ _ _
      (at_drop_all (map page_of) c.args.files.now c.loop-file.file-index c.loop-file-test.false)
      c.loop-file.invariant,
) at c.in_ok-reported.ensures
