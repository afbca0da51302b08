use Rattle.interpolator_border.proofs.formatting.format.Goals as goal

pub returns-in-Some : goal.returns-in-Some
returns-in-Some c = rw c.in-Some.ensures.0 at c.format_text.ensures
