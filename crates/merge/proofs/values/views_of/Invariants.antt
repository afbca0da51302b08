use Rattle.merge.proofs.ValueLemmas.{AreShownTo}
use Rattle.merge.proofs.values.views_of.Given as goal

abbrev pub invariant-loop-at : goal.invariant-loop-at
invariant-loop-at l = AreShownTo l.columns l.fields l.at l.views.items
