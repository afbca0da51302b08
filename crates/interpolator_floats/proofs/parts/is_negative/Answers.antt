use Rattle.std.proofs.Common.{rules}
use Rattle.interpolator_floats.proofs.PartLemmas.{no_sign, sign_of}
use Rattle.interpolator_floats.proofs.parts.is_negative.Goals as goal

pub returns-then-not-is_nan : goal.returns-then-not-is_nan
returns-then-not-is_nan c = search (rules, sign_of)

pub returns-else-not-is_nan : goal.returns-else-not-is_nan
returns-else-not-is_nan c = search (rules, no_sign)
