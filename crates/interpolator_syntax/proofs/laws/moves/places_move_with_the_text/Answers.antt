use Rattle.std.proofs.Common.{arith}
use Rattle.interpolator_syntax.proofs.{MovePieceLemmas.pieces_move, ReaderLemmas.moves_argument}
use Rattle.interpolator_syntax.proofs.laws.moves.places_move_with_the_text.Goals as goal

pub returns : goal.returns
returns c = grind (arith, moves_argument, pieces_move)
