use Rattle.std.proofs.Common.{◌≡◌, ◌∙◌, ◌==◌, sym, false, length}
use Rattle.std.proofs.lemmas.Result.{IfOk-weaker}
use Rattle.catalogue.proofs.line_faults.report_of_rule.Goals as goal

pub returns-then-not-is_first-clause-reported : goal.returns-then-not-is_first-clause-reported
returns-then-not-is_first-clause-reported c =
    IfOk-weaker c.reported_at.result _ _ (λ reported here seen so_far.
    let later : (length seen == 0) ≡ false =
    sym (c.is_first.ensures seen so_far) ∙ c.if-not-is_first.true in
    rw later here) c.reported_at.ensures.reported
