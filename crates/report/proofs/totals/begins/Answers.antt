use Rattle.std.proofs.Common.{refl, sym}
use Rattle.std.proofs.lemmas.{Bool.false_from_ne_true, Bool.Decides.Decides-eqb, Slice.Eq.starts_is}
use Rattle.report.proofs.totals.begins.Goals as goal

pub returns-in-None : goal.returns-in-None
returns-in-None c =
    let starts = starts_is Decides-eqb c.args.text.now c.args.front.now _ refl in
    sym (false_from_ne_true _ (λ e. c.in-None.ensures.cases _ (starts.0 e)))
