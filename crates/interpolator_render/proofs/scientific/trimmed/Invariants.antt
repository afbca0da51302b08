use Rattle.std.proofs.Common.{◌≡◌, false}
use Rattle.interpolator_digits.specs.{Digits.digit_text, Exponent.significant_digits}
use Rattle.interpolator_render.proofs.scientific.trimmed.Given as goal

abbrev pub invariant-loop-rest : goal.invariant-loop-rest
invariant-loop-rest l = significant_digits (digit_text 10 false l.rest) ≡ significant_digits (digit_text 10 false l.n)

abbrev pub decreases-loop-rest : goal.decreases-loop-rest
decreases-loop-rest l = l.rest
