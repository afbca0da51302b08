use Rattle.interpolator_prepared.proofs.compile.push_pair.Goals as goal

pub returns-in-Joined-Plain : goal.returns-in-Joined-Plain
returns-in-Joined-Plain c =
    rw (c.in-Joined-Plain.is-0, c.in-Joined-Plain.is-1) (record { pushed = c.push_step-in-Joined-Plain.ensures.pushed })
