-- What exponent form shows of a number, found by powers of ten and by remainders.
use Rattle.std.proofs.Common.{rules, ◌≡◌, ◌≢◌, ℕ, ◌<◌, ◌≤◌, ◌+◌, ◌/◌, ◌%◌, ◌^◌, false, get_or, sym}
use Rattle.std.proofs.Common.{arith, eqb, eqb→eq, eq-zero-or-pos}
use Rattle.interpolator_render.specs.declared.scientific.TheConstants.{POWERS}
use Rattle.interpolator_digits.specs.Digits.{digit_text}
use Rattle.interpolator_digits.specs.Exponent.{exponent_of, significant_digits}
use Rattle.interpolator_render.proofs.{CountLemmas.digits_between, DigitTableLemmas.at_below}
use Rattle.interpolator_digits.proofs.DigitLemmas.{digit_text_some, digit_text_step, digit_text_one}
use Rattle.interpolator_digits.proofs.DigitLemmas.{one_count, glyph_some}
use Rattle.interpolator_digits.proofs.ExponentLemmas.{trimmed_zero, trimmed_other}

-- the table of powers
pub power_at : (i : ℕ) → i ≤ 38 → get_or POWERS i 0 ≡ 10 ^ i
power_at i h = eqb→eq _ _ (at_below (λ n. eqb (get_or POWERS n 0) (10 ^ n)) 39 i tt (omega arith))

-- the exponent between two powers
pub exponent_found : (n e : ℕ) → (0 < e → 10 ^ e ≤ n) → n < 10 ^ (e + 1) → e ≡ exponent_of n
exponent_found n e low high = search (rules, eq-zero-or-pos, one_count, digits_between)

-- ---- the zeros at the end

pub trim_zero : (n : ℕ) → 10 ≤ n → n % 10 ≡ 0 → significant_digits (digit_text 10 false (n / 10))
    ≡ significant_digits (digit_text 10 false n)
trim_zero n h z =
    rw (digit_text_step 10 n false (omega arith) h, z)
    (sym (trimmed_zero _ (digit_text_some 10 (n / 10) false (omega arith))))

pub trim_done : (n : ℕ) → 10 ≤ n → n % 10 ≢ 0 →
    digit_text 10 false n ≡ significant_digits (digit_text 10 false n)
trim_done n h z = grind (arith, digit_text_step, trimmed_other, glyph_some)

pub trim_short : (n : ℕ) → n < 10 → digit_text 10 false n ≡ significant_digits (digit_text 10 false n)
trim_short n h = grind (arith, digit_text_one)

pub ruleset trims = (trim_zero, trim_done, trim_short)
