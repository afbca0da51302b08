use Rattle.interpolator_escapes.proofs.GrowthLemmas.{escaped_six, others_six}
use Rattle.interpolator_escapes.proofs.laws.at_most_six_characters_for_one.Goals as goal

pub returns : goal.returns
returns g c = record {
  others = λ escape e a no. others_six escape g.V.Value.shows e a no;
  all = λ escape e a. escaped_six escape g.V.Value.shows e a;
}
