use Rattle.std.proofs.Common.{chars}
use Rattle.interpolator_syntax.specs.Places.{outermost}
use Rattle.interpolator_eval.specs.{Meaning.Environments.environment, Meaning.Meanings.means}
use Rattle.interpolator_laws.proofs.{ResembleLemmas.no_fault, UnfailingLemmas.only_memory_refused}
use Rattle.interpolator_laws.proofs.samples.a_checked_template_is_formatted.Goals as goal

pub returns-clause-refused : goal.returns-clause-refused
returns-clause-refused g c =
    only_memory_refused
    (means g.C.Object.Value.shows (environment (g.C.Context.finds c.args.context.now))
    (outermost (chars c.args.template.now)))
    c.format_template.result
    (no_fault g.S.Object.Value.shows g.C.Object.Value.shows
    (g.S.Context.finds c.args._sample.now) (environment (g.C.Context.finds c.args.context.now))
    (outermost (chars c.args.template.now)) c.requires.checked c.requires.resembles)
    c.format_template.ensures.formats
