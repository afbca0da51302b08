use Rattle.catalogue.proofs.messages.reported_absent.Goals as goal

pub returns-clause-reported : goal.returns-clause-reported
returns-clause-reported c =
    rw (
      c.in_ok-form.ensures,
      c.in_ok-choice.ensures,
      c.as_slice.ensures.value,
    ) at c.in_ok-reported.ensures.ok
