use Rattle.std.proofs.Common.{sym}
use Rattle.interpolator_syntax.specs.Places.{at}
use Rattle.interpolator_eval.proofs.MeaningLemmas.{PlainItemLemmas.run_alone, ScanLemmas.text_none}
use Rattle.interpolator_eval.proofs.evaluate.scanned_groups.text_or_end.Goals as goal

pub returns-in_default : goal.returns-in_default
returns-in_default c = text_none (at c.args.here) (sym c.in_default.ensures.token)

pub returns-in-Literals : goal.returns-in-Literals
returns-in-Literals c =
    let token = rw c.in-Literals.is at (sym c.in-Some.ensures.token) in
    run_alone _ _ _ token (rw c.if-is_at_end.true at c.is_at_end.ensures)
