use Rattle.std.proofs.{Common.chars, Common.inl, lemmas.Result.err_from_is_err_and}
use Rattle.interpolator_syntax.specs.Places.{outermost}
use Rattle.interpolator_eval.specs.Meaning.ScannedLists.{text_forest}
use Rattle.interpolator_eval.proofs.MeaningLemmas.SourceLemmas.{before_fails, from_on, before_all}
use Rattle.interpolator_pieces.proofs.ListTextLemmas.{or_else}
use Rattle.interpolator_pieces.proofs.formatting.write_to_end.Goals as goal

pub returns-in_err-place-clause-outcome : goal.returns-in_err-place-clause-outcome
returns-in_err-place-clause-outcome g c =
    let all = text_forest (outermost (chars c.args.format.now)) in
    let err = err_from_is_err_and c.from_residual.result c.from_residual.ensures.1 in
    rw (err.1, err.2) (inl (before_fails _ _ _ all _ _ _ c.in_err-place.ensures.writes))

pub returns-in-Some-clause-outcome : goal.returns-in-Some-clause-outcome
returns-in-Some-clause-outcome g c =
    let all = text_forest (outermost (chars c.args.format.now)) in
    or_else (from_on _ _ _ all _ _ _ _ c.in_ok-place.ensures.writes)
    c.write_from_list.ensures.outcome

pub returns-in-None-clause-outcome : goal.returns-in-None-clause-outcome
returns-in-None-clause-outcome g c =
    let all = text_forest (outermost (chars c.args.format.now)) in
    let none = rw c.in-None.is at c.in_ok-place.ensures.list in
    inl (before_all _ _ _ all _ _ none c.in_ok-place.ensures.writes)
