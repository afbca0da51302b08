use Rattle.std.proofs.Common.{◌≡◌, arith}
use Rattle.interpolator_floats.specs.ShortestDigits.{shortest_text}
use Rattle.interpolator_render.specs.Padding.{unset_spec}
use Rattle.interpolator_render.proofs.FloatRowLemmas.{unset_text}
use Rattle.interpolator_render.proofs.float.put_bare_shortest.Goals as goal

pub returns : goal.returns
returns g c =
    let unset : c.default.result ≡ unset_spec = grind arith in
    let text = unset_text c.default.result c.args.negative (shortest_text c.args.shown) unset in
    rw (← text) c.put_around_shortest.ensures
