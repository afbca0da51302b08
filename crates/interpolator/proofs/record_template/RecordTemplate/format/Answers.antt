use Rattle.interpolator.proofs.record_template.RecordTemplate.format.Goals as goal

pub returns : goal.returns
returns g c = rw (← c.self.view_is) c.format_by.ensures
