use Rattle.std.proofs.Common.{sym, ◌∙◌}
use Rattle.strangers.proofs.ServingLemmas.{only_memory}
use Rattle.strangers.proofs.serving.written.Goals as goal

pub returns-in-Err-clause-err : goal.returns-in-Err-clause-err
returns-in-Err-clause-err c =
    only_memory _ _ _ _ (c.a_context_resembles_itself.ensures.fault _ _ c.requires)
    (sym c.refused.ensures ∙ c.if-refused.false) c.in-Err.ensures.outcome
