use Rattle.merge.proofs.letters.merge_rows.Goals as goal

pub prepared_letters-requires : goal.prepared_letters-requires
prepared_letters-requires g c = record {
  same_names = rw c.as_slice-sample.ensures.value c.in_ok-held-2.ensures.names;
  same_values = rw c.as_slice-sample.ensures.value c.in_ok-held-2.ensures.values;
}
