use Rattle.std.proofs.Common.{arith}
use Rattle.interpolator_render.proofs.ExponentRowLemmas.{grown_alone}
use Rattle.interpolator_render.proofs.decimal_exponent.put_scaled_in_row.Goals as goal

pub returns : goal.returns
returns g c = let body = grown_alone _ _ c.new-buffer.result (grind arith) c.put_scaled.ensures in
    grind arith
