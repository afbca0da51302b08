use Rattle.std.proofs.Common.{◌∙◌}
use Rattle.report.proofs.LineLemmas.{examples_of}
use Rattle.report.proofs.formatted.report_by.Goals as goal

pub prepared_line-requires : goal.prepared_line-requires
prepared_line-requires c =
    let same = c.as_slice-3.ensures.value in
    let columns = c.as_slice-2.ensures.value in
    let before = c.as_slice.ensures.value in record {
      same_names = rw (same, columns, ← before) c.in_ok-sample.ensures.names;
      same_values = rw (same, columns, ← before)
          (c.in_ok-sample.ensures.values ∙ examples_of c.as_slice.result.now);
    }
