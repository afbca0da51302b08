-- The table of powers of ten.
use Rattle.std.proofs.Common.{◌≡◌, ℕ, ◌≤◌, ◌^◌, get_or, arith, eqb, eqb→eq}
use Rattle.interpolator_floats.specs.declared.powers.TheConstants.{POWERS}
use Rattle.interpolator_floats.proofs.ScaleLemmas.{at_below}

pub power_at : (i : ℕ) → i ≤ 22 → get_or POWERS i 0 ≡ 10 ^ i
power_at i h = eqb→eq _ _ (at_below (λ n. eqb (get_or POWERS n 0) (10 ^ n)) 23 i tt (omega arith))
