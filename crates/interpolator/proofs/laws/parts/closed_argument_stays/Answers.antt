use Rattle.interpolator.proofs.SeamLemmas.{closed_same}
use Rattle.interpolator.proofs.laws.parts.closed_argument_stays.Goals as goal

pub returns : goal.returns
returns c = record { stays = λ a q x rest more e closes. closed_same a more x q rest e closes }
