use Rattle.interpolator_eval.proofs.evaluate.uncounted.write_uncounted.Given as goal

-- the ledger that the blank one becomes
abbrev pub ghosts-write_on : goal.ghosts-write_on
ghosts-write_on g a = record { name = a.blank.name; parts = a.blank.parts }
