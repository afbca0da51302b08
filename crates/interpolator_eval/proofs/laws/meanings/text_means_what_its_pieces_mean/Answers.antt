use Rattle.std.proofs.Common.{[]}
use Rattle.interpolator_eval.proofs.MeaningLemmas.MeaningLemmas.{means_pieces, means_around}
use Rattle.interpolator_eval.proofs.MeaningLemmas.MeaningLemmas.{nothing_last}
use Rattle.interpolator_eval.proofs.laws.meanings.text_means_what_its_pieces_mean.Goals as goal

pub returns-clause-pieces : goal.returns-clause-pieces
returns-clause-pieces g c = λ e a. means_pieces g.V.Value.shows e a

pub returns-clause-closed : goal.returns-clause-closed
returns-clause-closed g c = λ e a before after piece start q x h kind.
    rw kind at (means_around g.V.Value.shows e a before after piece h)

pub returns-clause-unclosed : goal.returns-clause-unclosed
returns-clause-unclosed g c = λ e a before piece start q x h kind.
    rw (kind, nothing_last) at (means_around g.V.Value.shows e a before [] piece h)
