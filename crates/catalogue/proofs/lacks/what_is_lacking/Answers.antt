use Rattle.catalogue.proofs.lacks.what_is_lacking.Goals as goal

pub returns : goal.returns
returns c = rw c.in_ok-forms.ensures at c.in_ok-what.ensures.ok
