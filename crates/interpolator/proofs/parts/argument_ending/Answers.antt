use Rattle.std.proofs.{Common.arith, lemmas.Str.chars-nil}
use Rattle.interpolator_syntax.specs.Pieces.{argument_from}
use Rattle.interpolator_syntax.proofs.PieceLemmas.{pieces_none}
use Rattle.interpolator.proofs.parts.argument_ending.Goals as goal

pub returns-in-Some : goal.returns-in-Some
unfolding argument_from
returns-in-Some c = grind (arith, c.in-Ok.ensures, c.in-Some.is)

pub returns-in-None : goal.returns-in-None
unfolding argument_from
returns-in-None c = grind (arith, c.in-Ok.ensures, c.in-None.is, chars-nil, pieces_none)

pub returns-in-Err : goal.returns-in-Err
unfolding argument_from
returns-in-Err c = grind (arith, c.in-Err.ensures.read, chars-nil, pieces_none)
