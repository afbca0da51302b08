use Rattle.interpolator.proofs.interpolate.HashMapRefStrFormattableInterpolate.format_escaped.Goals as goal

pub returns : goal.returns
returns g c = rw (c.new.ensures) at c.format_escaped.ensures
