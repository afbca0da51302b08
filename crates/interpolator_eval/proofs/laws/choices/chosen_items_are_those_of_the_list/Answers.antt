use Rattle.interpolator_eval.proofs.MeaningLemmas.ChoiceLemmas.{chosen_stand}
use Rattle.interpolator_eval.proofs.laws.choices.chosen_items_are_those_of_the_list.Goals as goal

pub returns : goal.returns
returns g c = chosen_stand
