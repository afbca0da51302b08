use Rattle.interpolator.proofs.interpolate.HashMapRefStrFormattableInterpolate.write_page_to.Goals as goal

pub returns : goal.returns
returns g c = rw (c.new.ensures) at c.write.ensures
