use Rattle.interpolator.proofs.record_template.RecordTemplate.write.Goals as goal

pub returns : goal.returns
returns g c = rw (← c.self.view_is) c.write_by.ensures
