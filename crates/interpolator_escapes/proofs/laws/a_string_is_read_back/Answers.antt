use Rattle.interpolator_escapes.proofs.JsonLemmas.{string_back}
use Rattle.interpolator_escapes.proofs.laws.a_string_is_read_back.Goals as goal

pub returns : goal.returns
returns c = string_back
