use Rattle.std.proofs.Common.{ap, sym, ◌∙◌}
use Rattle.interpolator_eval.specs.Meaning.ListArguments.{join_of, item_of}
use Rattle.interpolator_eval.specs.{Meaning.Meanings.items_mean, Meaning.Choices.chosen_items}
use Rattle.interpolator_eval.proofs.MeaningLemmas.ListLawLemmas.{items_finish, items_fail}
use Rattle.interpolator_eval.proofs.MeaningLemmas.ListLawLemmas.{join_finishes}
use Rattle.interpolator_eval.proofs.laws.meanings.list_is_its_items_and_joins.Goals as goal

pub returns-clause-text : goal.returns-clause-text
returns-clause-text g c = λ e q l ts h.
    (items_finish (join_of g.V.Value.shows e l) _ (chosen_items l.range ts) h).1

pub returns-clause-all : goal.returns-clause-all
returns-clause-all g c = λ e q l ts h.
    (items_finish (join_of g.V.Value.shows e l) _ (chosen_items l.range ts) h).0

pub returns-clause-join : goal.returns-clause-join
returns-clause-join g c = λ e q l ts x y more chosen h.
    let join = join_of g.V.Value.shows e l in
    let item = item_of g.V.Value.shows e l q in
    join_finishes join item x y more
    (sym (ap (λ xs. (items_mean join item xs).fault) chosen) ∙ h)

pub returns-clause-first : goal.returns-clause-first
returns-clause-first g c = λ e q l ts f h.
    let shows = g.V.Value.shows in
    items_fail (join_of shows e l) (item_of shows e l q) (chosen_items l.range ts) f h
