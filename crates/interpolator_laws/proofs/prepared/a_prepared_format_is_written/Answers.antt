use Rattle.std.proofs.Common.{chars}
use Rattle.interpolator_syntax.specs.Places.{outermost}
use Rattle.interpolator_laws.proofs.RowSampleLemmas.{wants_no_memory, writes_all}
use Rattle.interpolator_laws.proofs.prepared.a_prepared_format_is_written.Goals as goal

pub returns-clause-answer : goal.returns-clause-answer
returns-clause-answer g c =
    writes_all g.S.Value.shows g.V.Value.shows c.args._sample.now.0.now c.args.row.now.0.now
    (outermost (chars c.args.prepared.now.text)) c.requires.checked c.requires.resembles _
    c.requires.names _ _ _ c.write.ensures.outcome

pub returns-clause-memory : goal.returns-clause-memory
returns-clause-memory g c =
    wants_no_memory g.S.Value.shows g.V.Value.shows c.args._sample.now.0.now
    c.args.row.now.0.now (outermost (chars c.args.prepared.now.text)) c.requires.checked
    c.requires.resembles _ c.requires.names _ _ _ c.write.ensures.outcome
