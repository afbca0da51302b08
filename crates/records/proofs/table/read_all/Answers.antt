use Rattle.std.proofs.Common.{[], ◌++◌, ◌∙◌, ◌∷◌}
use Rattle.records.proofs.EntryLemmas.{all_read, one_read}
use Rattle.records.specs.Tables.{at, separator_of}
use Rattle.records.proofs.table.read_all.Goals as goal

pub entries-preserved : goal.entries-preserved
entries-preserved c =
    let so_far = c.entries.invariant.entries in
    let adds = rw c.entries.invariant.same at c.in_ok-read_next.ensures.adds in
    let one = rw c.if-branch.true at adds in record {
      same = c.in_ok-read_next.ensures.same ∙ c.entries.invariant.same;
      entries = (
        so_far.0 ++ (one.0 ∷ []),
        one_read (separator_of c.args.from) (at c.args.from) (at c.entries.reader)
            (at c.read_next.new.reader) (so_far.0) (one.0) (so_far.1) (one.1),
        one.2 (so_far.0) (so_far.2),
      );
    }

pub returns : goal.returns
returns c =
    let so_far = c.entries.invariant.entries in
    let adds = rw c.entries.invariant.same at c.in_ok-read_next.ensures.adds in
    let end = rw c.if-branch.false at adds in (
      so_far.0,
      all_read (separator_of c.args.from) (at c.args.from) (at c.entries.reader) (so_far.0)
          (so_far.1) (end.0),
      rw (end.1, end.2) (so_far.2),
    )
