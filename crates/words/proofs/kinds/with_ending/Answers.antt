use Rattle.std.proofs.{Common.refl, lemmas.Bool.false_from_ne_true, lemmas.Bool.Decides.Decides-eqb}
use Rattle.std.proofs.lemmas.Slice.Eq.{ends_is}
use Rattle.words.proofs.kinds.with_ending.Goals as goal

pub returns-in-None : goal.returns-in-None
returns-in-None c =
    let ends = ends_is Decides-eqb c.args.text.now c.args.ending.now _ refl in
    rw (false_from_ne_true _ (λ e. c.in-None.ensures.cases _ (ends.0 e))) refl
