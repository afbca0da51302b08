use Rattle.std.proofs.Common.{arith}
use Rattle.interpolator_pieces.proofs.CheckPlaceLemmas.{first_lies}
use Rattle.interpolator_pieces.proofs.functions.check.Goals as goal

pub returns-clause-place : goal.returns-clause-place
returns-clause-place c = grind (arith, first_lies)
