use Rattle.interpolator.proofs.EscapeLemmas.{plain_means}
use Rattle.interpolator_laws.proofs.escapes.plain_pieces_say_their_characters.Goals as goal

pub returns : goal.returns
returns g c = plain_means g.V.Value.shows
