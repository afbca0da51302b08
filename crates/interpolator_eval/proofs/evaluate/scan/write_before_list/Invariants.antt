use Rattle.interpolator_eval.proofs.evaluate.scan.write_before_list.Given as goal

-- the ledger that the blank one becomes
abbrev pub ghosts-write_before_list_on : goal.ghosts-write_before_list_on
ghosts-write_before_list_on g a = record { name = a.blank.name; parts = a.blank.parts }
