use Rattle.std.proofs.Common.{arith}
use Rattle.interpolator_pieces.proofs.StoredNameLemmas.{asked_part, asked_held}
use Rattle.interpolator_pieces.proofs.names.asked_name.Goals as goal

pub text_of-requires : goal.text_of-requires
text_of-requires c = grind (arith, asked_part)

pub returns-in_default : goal.returns-in_default
returns-in_default c = grind (arith, asked_held)
