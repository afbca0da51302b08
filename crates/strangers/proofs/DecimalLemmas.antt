-- How many characters a decimal has.
use Rattle.std.proofs.Common.{◌≡◌, ◌∙◌, refl, sym, ap, arith, rules, ℕ, zero, suc, ◌+◌, ◌*◌, ◌/◌}
use Rattle.std.proofs.Common.{◌%◌, ◌^◌, ◌<◌, ◌≤◌, ◌==◌, false, List, [], ◌∷◌, length, None}
use Rattle.std.proofs.Common.{length-append, append-nil, pow-suc, inl, inr, eq-zero-or-pos}
use Rattle.std.proofs.lemmas.Int.Digits.{length-digits_of-le, length-digits_of_step}
use Rattle.std.proofs.{Math.Nat.div-eq_of_lt, lemmas.List.length-map}
use Rattle.std.specs.Int.Digits.{digits_of}
use Rattle.interpolator_digits.specs.Decimals.{after_point, decimal_text, placed}
use Rattle.interpolator_digits.specs.Digits.{digit_text}
use Rattle.strangers.specs.Values.{count_after}
use Rattle.interpolator_digits.proofs.DecimalLemmas.{length-placed, placed_none, plain_decimal}
use Rattle.interpolator_digits.proofs.DecimalLemmas.{remainder_fits}
use Rattle.interpolator_digits.proofs.DigitLemmas.{digit_text_map, digit_text_zero}
use Rattle.interpolator_digits.proofs.ExponentLemmas.{pow_some}

-- ---- digits of a number

-- a number with this power of ten has more digits than the power says
more_digits : (k n : ℕ) → 10 ^ k ≤ n → k < length (digits_of 10 n)
more_digits zero n h =
    let step = length-digits_of_step 10 n (omega arith) (omega (arith, h)) in omega (arith, step)
more_digits (suc k) n h =
    let some = pow_some k in
    let above : 10 ^ k * 10 ≤ n = rw (pow-suc 10 k) at h in
    let rest = more_digits k (n / 10) (omega (arith, above)) in
    let step = length-digits_of_step 10 n (omega arith) (omega (arith, some, above)) in
    omega (arith, rest, step)

-- the digits of a number with this power of ten and no greater one
pub power_digits : (k n : ℕ) → 10 ^ k ≤ n → n < 10 * 10 ^ k →
    length (digit_text 10 false n) ≡ k + 1
power_digits k n low high =
    let some = pow_some k in
    let below : n < 10 ^ suc k = rw (pow-suc 10 k) (omega (arith, high)) in
    let most = length-digits_of-le 10 (suc k) n (omega arith) below in
    let least = more_digits k n low in
    rw (digit_text_map 10 n false (omega (arith, some, low)), length-map)
    (omega (arith, most, least))

pub zero_digits : (n : ℕ) → n ≡ 0 → length (digit_text 10 false n) ≡ 1
zero_digits n e = rw (digit_text_zero 10 false n e) refl

-- a number below a unit has no whole one
pub no_whole : (units unit : ℕ) → units < unit → length (digit_text 10 false (units / unit)) ≡ 1
no_whole units unit h = zero_digits (units / unit) (div-eq_of_lt h)

-- ---- a decimal

pointed : (digits : List ℕ) → 0 < length digits → length (after_point digits) ≡ length digits + 1
pointed [] h = absurd (omega (arith, h))
pointed (first ∷ more) h = omega arith

length-after : (scale part : ℕ) → part < 10 ^ scale →
    length (after_point (placed scale part)) ≡ count_after scale
length-after scale part h = elim (eq-zero-or-pos scale) [
  | inl e ↦ rw (placed_none scale part e, e) refl
  | inr some ↦
      let f : (scale == 0) ≡ false = search rules in
      let n = length-placed scale part h in
      let more : count_after scale ≡ scale + 1 = rw f refl in
      pointed (placed scale part) (omega (arith, n, some)) ∙ ap (λ (m : ℕ). m + 1) n ∙ sym more
]

pub length-decimal : (scale units : ℕ) → length (decimal_text None scale units)
    ≡ length (digit_text 10 false (units / 10 ^ scale)) + count_after scale
length-decimal scale units =
    let part = units % 10 ^ scale in
    rw (← plain_decimal scale units, append-nil (placed scale part))
    (length-append (digit_text 10 false (units / 10 ^ scale)) (after_point (placed scale part))
    ∙ ap (λ (n : ℕ). length (digit_text 10 false (units / 10 ^ scale)) + n)
    (length-after scale part (remainder_fits units scale)))
