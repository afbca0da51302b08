use Rattle.std.proofs.Common.{arith, subst}
use Rattle.interpolator_syntax.specs.Places.{at}
use Rattle.interpolator_eval.specs.Meaning.ScannedLists.{ListAt}
use Rattle.interpolator_eval.proofs.MeaningLemmas.ListPlaceLemmas.{list_found}
use Rattle.interpolator_eval.proofs.evaluate.scan.write_before_list_on.Goals as goal

pub overflow_sub-result : goal.overflow_sub-result
overflow_sub-result g c =
    let met = rw c.if-branch.true at c.in_ok-write_to_sink.ensures.met in
    let found = list_found _ _ (at c.args.text) met.1 in
    omega (arith, found.begins)

pub returns-then-branch-clause-list : goal.returns-then-branch-clause-list
returns-then-branch-clause-list g c =
    let met = rw c.if-branch.true at c.in_ok-write_to_sink.ensures.met in
    let found = list_found _ _ (at c.args.text) met.1 in
    subst (ListAt (at c.args.text)) (omega (arith, found.begins)) found.list
