use Rattle.catalogue.proofs.checks.checked_file.Goals as goal

pub returns-clause-reported : goal.returns-clause-reported
returns-clause-reported c =
    rw (c.as_slice-2.ensures.value, c.in_ok-lines.ensures) at c.checked_lines.ensures.reported

pub returns-clause-found : goal.returns-clause-found
returns-clause-found c =
    rw (
      c.as_slice-2.ensures.value,
      c.in_ok-lines.ensures,
      c.in_ok-wanted.ensures,
      c.as_slice.ensures.value,
    ) at c.checked_lines.ensures.found
