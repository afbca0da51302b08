use Rattle.interpolator_eval.proofs.MeaningLemmas.MovedLemmas.{means_moves, means_from}
use Rattle.interpolator_eval.proofs.laws.meanings.meaning_moves_with_the_text.Goals as goal

pub returns-clause-moves : goal.returns-clause-moves
returns-clause-moves g c = λ by e a. means_moves by g.V.Value.shows e a

pub returns-clause-from : goal.returns-clause-from
returns-clause-from g c = λ e p text. means_from g.V.Value.shows e p text
