use Rattle.std.proofs.Common.{List, None, Option, subst, sym, ◌∙◌}
use Rattle.std.specs.{Int.w128, Prelude.FitsSigned, Prelude.SomeIff}
use Rattle.interpolator.specs.declared.decimal.Decimal.{Decimal}
use Rattle.report.specs.{Totals.exact_sum, Totals.exact_total, declared.totals.Total.Total}
use Rattle.report.proofs.totals.small_total.Goals as goal

pub returns-in-Ok-None-clause-err : goal.returns-in-Ok-None-clause-err
returns-in-Ok-None-clause-err c =
    let there = c.deref.result.now in
    let none : SomeIff None (FitsSigned w128 (exact_sum there).units) (exact_total there) =
    subst (λ (total : Option Total).
    SomeIff total (FitsSigned w128 (exact_sum there).units) (exact_total there))
    c.in-Ok-None.field-0-is c.in-Ok-None.ensures in (
      c.requires,
      λ fits. none (subst (λ (ns : List Decimal). FitsSigned w128 (exact_sum ns).units)
          (sym (c.deref.ensures.value ∙ c.in_ok-numbers.ensures)) fits),
    )
