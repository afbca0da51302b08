use Rattle.std.proofs.Common.{arith, chars}
use Rattle.interpolator_syntax.specs.Places.{outermost}
use Rattle.interpolator_eval.specs.Meaning.Environments.{environment}
use Rattle.interpolator_laws.proofs.escaped.no_value_leaves_its_place.Goals as goal

pub returns : goal.returns
returns g c =
    let keeps = c.accepted_formats_keep_structure.ensures c.args.page.now.escape
    (environment (g.C.Context.finds c.args.context.now)) (outermost (chars c.args.page.now.text))
    c.template.ensures.stand in grind arith
