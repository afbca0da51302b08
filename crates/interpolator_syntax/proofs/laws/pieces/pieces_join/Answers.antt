use Rattle.interpolator_syntax.specs.Pieces.{pieces}
use Rattle.interpolator_syntax.proofs.{GrammarLemmas.pieces_joined, GrammarPieceLemmas.pieces_are}
use Rattle.interpolator_syntax.proofs.laws.pieces.pieces_join.Goals as goal

pub returns : goal.returns
returns c = record { joined = λ a. pieces_joined (pieces a) a (pieces_are a) }
