use Rattle.interpolator_eval.proofs.MeaningLemmas.{AskedLemmas.asked_alone, EqualLemmas.means_same}
use Rattle.interpolator_eval.proofs.laws.names.asked_names_alone_matter.Goals as goal

pub returns-clause-two : goal.returns-clause-two
returns-clause-two g c = λ e d a h. means_same g.V.Value.shows e d a h

pub returns-clause-cut : goal.returns-clause-cut
returns-clause-cut g c = λ e a. asked_alone g.V.Value.shows e a
