use Rattle.std.proofs.lemmas.Result.{IfOk-weaker}
use Rattle.catalogue.proofs.UnusedLemmas.{left_by_message}
use Rattle.catalogue.proofs.unused.leave_message.Goals as goal

pub returns-clause-left : goal.returns-clause-left
returns-clause-left c = IfOk-weaker c.leave_format.result _ _ (λ _ left. left_by_message _ _ _ _ _ _
    c.in_ok-heading.ensures.declared c.leave_declared.ensures left) c.leave_format.ensures.left
