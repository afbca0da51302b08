use Rattle.interpolator_eval.proofs.MeaningLemmas.ListLawLemmas.{wide_fault, narrow}
use Rattle.interpolator_eval.proofs.laws.meanings.fault_ends_a_list.Goals as goal

pub returns-clause-padded : goal.returns-clause-padded
returns-clause-padded g c = λ e start q width x l ts d f h wide.
    wide_fault g.V.Value.shows e start q x l ts f width wide d h

pub returns-clause-unpadded : goal.returns-clause-unpadded
returns-clause-unpadded g c = λ e start q x l ts f.
    narrow g.V.Value.shows e start q x l ts f
