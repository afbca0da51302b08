use Rattle.interpolator_laws.proofs.SamplePairLemmas.{pairs_resemble}
use Rattle.interpolator_laws.proofs.samples.pairs_of_the_same_names_resemble.Goals as goal

pub returns : goal.returns
returns g c = pairs_resemble g.S.Value.shows g.V.Value.shows
