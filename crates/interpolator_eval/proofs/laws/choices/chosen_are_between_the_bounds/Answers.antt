use Rattle.interpolator_eval.specs.Meaning.Choices.{lower_in, upper_in}
use Rattle.interpolator_eval.proofs.MeaningLemmas.ChoiceLemmas.{between_cut, none_between}
use Rattle.interpolator_eval.proofs.MeaningLemmas.ChoiceLemmas.{in_order_and_inside}
use Rattle.interpolator_eval.proofs.laws.choices.chosen_are_between_the_bounds.Goals as goal

pub returns-clause-chosen : goal.returns-clause-chosen
returns-clause-chosen c = λ n k range. between_cut n k (lower_in n range) (upper_in n range)

pub returns-clause-none : goal.returns-clause-none
returns-clause-none c = λ n range. none_between n (lower_in n range) (upper_in n range)

pub returns-clause-inside : goal.returns-clause-inside
returns-clause-inside c = in_order_and_inside
