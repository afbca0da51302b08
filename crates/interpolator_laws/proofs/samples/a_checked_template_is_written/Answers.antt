use Rattle.std.specs.Str.{chars}
use Rattle.interpolator_syntax.specs.Places.{outermost}
use Rattle.interpolator_eval.specs.Meaning.Environments.{environment}
use Rattle.interpolator_laws.proofs.ResembleLemmas.{no_fault, no_memory_point}
use Rattle.interpolator_laws.proofs.UnfailingLemmas.{only_refused, wants_none}
use Rattle.interpolator_laws.proofs.samples.a_checked_template_is_written.Goals as goal

pub returns-clause-answer : goal.returns-clause-answer
returns-clause-answer g c =
    only_refused _ _ _ _
    (no_fault g.S.Object.Value.shows g.C.Object.Value.shows
    (g.S.Context.finds c.args._sample.now) (environment (g.C.Context.finds c.args.context.now))
    (outermost (chars c.args.template.now)) c.requires.checked c.requires.resembles)
    c.write.ensures.outcome

pub returns-clause-memory : goal.returns-clause-memory
returns-clause-memory g c = λ pads.
    wants_none _ _ _ _
    (no_fault g.S.Object.Value.shows g.C.Object.Value.shows
    (g.S.Context.finds c.args._sample.now) (environment (g.C.Context.finds c.args.context.now))
    (outermost (chars c.args.template.now)) c.requires.checked c.requires.resembles)
    (no_memory_point g.S.Object.Value.shows g.C.Object.Value.shows
    (g.S.Context.finds c.args._sample.now) (environment (g.C.Context.finds c.args.context.now))
    (outermost (chars c.args.template.now)) c.requires.checked c.requires.resembles pads)
    c.write.ensures.outcome
