use Rattle.interpolator_eval.specs.Meaning.Environments.{environment}
use Rattle.interpolator.specs.Meaning.Parts.{texts_of}
use Rattle.interpolator.proofs.PartLemmas.{parts_are_one}
use Rattle.interpolator.proofs.parts.write_parts.Goals as goal

pub returns-clause-composes : goal.returns-clause-composes
returns-clause-composes g c =
    parts_are_one g.C.Object.Value.shows (environment (g.C.Context.finds c.args.context.now))
    (texts_of c.args.parts.now)
