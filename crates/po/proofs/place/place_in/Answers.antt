use Rattle.std.proofs.Common.{arith}
use Rattle.po.proofs.PlaceLemmas.{goes_on}
use Rattle.po.proofs.place.place_in.Goals as goal

pub loop-taken-preserved : goal.loop-taken-preserved
loop-taken-preserved c = λ value rest reads within.
    goes_on c.args.file.now value rest c.loop-taken.place c.width_of-width.result c.loop-taken._taken
    c.saturating_add.result c.min-place.result (omega (arith, within, c.loop-taken-test.true))
    (c.loop-taken.invariant value rest reads within)
    (rw c.from_byte.ensures at c.width_of-width.ensures) (omega arith) c.saturating_add.ensures
    c.min-place.ensures
