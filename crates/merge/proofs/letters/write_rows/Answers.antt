use Rattle.std.proofs.Common.{[], ◌++◌, ◌∙◌, ◌∷◌, refl}
use Rattle.merge.specs.Columns.{kinds_in, names_in}
use Rattle.merge.proofs.TableLemmas.{all_read, no_rows, none_read, one_read, rows_more}
use Rattle.records.specs.Tables.{at, separator_of}
use Rattle.merge.proofs.letters.write_rows.Goals as goal

pub rows-init : goal.rows-init
rows-init g c = record {
  same = refl;
  rows = (
    [],
    none_read (separator_of c.args.rest) (at c.args.rest),
    rw c.in_ok-faults.ensures
        (no_rows c.args.letters.now (names_in c.args.frame.columns.now)
        (kinds_in c.args.frame.columns.now) c.args.writes
        (g.W.TextWrite.written c.args.out.now).text),
  );
}

pub rows-preserved : goal.rows-preserved
rows-preserved g c =
    let so_far = c.rows.invariant.rows in
    let wrote = c.in_ok-write_next.ensures.ok in
    let by = rw c.rows.invariant.same at wrote in
    let one = rw c.if-branch.true at by in record {
      same = c.in_ok-write_next.ensures.same ∙ c.rows.invariant.same;
      rows = (
        so_far.0 ++ (one.0 ∷ []),
        one_read (separator_of c.args.rest) (at c.args.rest) (at c.rows.reader)
            (at c.write_next.new.reader) (so_far.0) (one.0) (so_far.1) (one.1),
        rows_more c.args.letters.now (names_in c.args.frame.columns.now)
            (kinds_in c.args.frame.columns.now) c.args.writes (so_far.0) (one.0)
            c.rows.faults.items c.write_next.new.faults.items _ _ _ (so_far.2) (one.2),
      );
    }

pub returns : goal.returns
returns g c =
    let so_far = c.rows.invariant.rows in
    let wrote = c.in_ok-write_next.ensures.ok in
    let end = rw c.if-branch.false at wrote in (
      so_far.0,
      all_read (separator_of c.args.rest) (at c.args.rest) (at c.rows.reader) (so_far.0)
          (so_far.1) (end.0),
      rw (end.1, end.2) (so_far.2),
    )
