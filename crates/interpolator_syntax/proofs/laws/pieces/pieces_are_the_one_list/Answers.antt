use Rattle.interpolator_syntax.specs.Pieces.{pieces}
use Rattle.interpolator_syntax.proofs.{GrammarLemmas.one_list, GrammarPieceLemmas.pieces_are}
use Rattle.interpolator_syntax.proofs.laws.pieces.pieces_are_the_one_list.Goals as goal

pub returns-clause-is : goal.returns-clause-is
returns-clause-is c = pieces_are

pub returns-clause-only : goal.returns-clause-only
returns-clause-only c = λ a xs h. one_list xs (pieces a) a h (pieces_are a)
