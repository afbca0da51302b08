use Rattle.interpolator_tests.proofs.costs.counted.Given as goal

-- the ledger that the blank one becomes
abbrev pub ghosts-written_counted : goal.ghosts-written_counted
ghosts-written_counted a = record { name = a.blank.name; parts = a.blank.parts }
