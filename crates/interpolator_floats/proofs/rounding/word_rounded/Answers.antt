use Rattle.std.proofs.Common.{◌*◌, sym}
use Rattle.interpolator_floats.proofs.RoundedLemmas.{long_count, long_rounded}
use Rattle.interpolator_floats.proofs.UnitLemmas.{unit_some}
use Rattle.interpolator_floats.specs.Shortest.{units_down, units_up}
use Rattle.interpolator_floats.proofs.rounding.word_rounded.Goals as goal

pub units_in-cut-requires-clause-few : goal.units_in-cut-requires-clause-few
units_in-cut-requires-clause-few c =
    let fine = c.lowered-fine in
    long_count c.args.mantissa c.args.power c.args.scale.up c.args.scale.down c.args.last c.args.places fine.result.up fine.result.down
    fine.ensures.up fine.ensures.down c.requires.least c.requires.most c.requires.more c.requires.few

pub returns-clause-rounded : goal.returns-clause-rounded
returns-clause-rounded c =
    let fine = c.lowered-fine in
    let cut = c.units_in-cut in
    let near = c.nearest_count.ensures (4 * c.args.mantissa * units_down c.args.power fine.result.down) (units_up fine.result.up) (unit_some fine.result.up) (sym cut.ensures.count) cut.ensures.some cut.ensures.none in
    long_rounded c.args.mantissa c.args.power c.args.scale.up c.args.scale.down c.args.last c.args.places fine.result.up fine.result.down
    fine.ensures.up fine.ensures.down c.requires.least c.requires.most c.requires.more c.requires.few c.nearest_count.result near
