use Rattle.catalogue.proofs.translations.reported_if_translated.Goals as goal

pub returns-then-is_translated-clause-reported : goal.returns-then-is_translated-clause-reported
returns-then-is_translated-clause-reported c = λ of_id of_plural.
    rw (← c.is_translated.ensures, c.if-is_translated.true)
    (c.in_ok-reported.ensures.reported of_id of_plural)
