use Rattle.interpolator.proofs.DecimalReadLemmas.{read_back}
use Rattle.interpolator.proofs.laws.decimals.decimals_are_spelled.Goals as goal

pub returns : goal.returns
returns c = record {
  spelled = λ units scale spec text width precision shown.
      read_back units scale spec text width precision shown;
}
