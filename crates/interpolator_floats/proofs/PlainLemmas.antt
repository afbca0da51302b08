-- The texts of shortest digits, in parts.
use Rattle.std.proofs.Common.{◌≡◌, ◌≢◌, ℕ, zero, suc, ◌<◌, ◌≤◌, ◌-◌, ◌+◌, ◌*◌, ◌/◌, ◌%◌, ◌^◌, Bool, false, None, [], ◌∷◌, ◌++◌, replicate}
use Rattle.std.proofs.Common.{refl, sym, ap, ◌∙◌, arith, eq-zero-or-pos, inl, inr, pow-add, pow-suc, mul_assoc, append-nil}
use Rattle.std.proofs.Math.Nat.{div-eq_of_lt, div-one, mod-eq_of_lt, mul-le-mul_right, mul-lt-mul_of_pos_right, pow-le-pow_right}
use Rattle.interpolator_digits.specs.Decimals.{after_point, decimal_exponent_text, decimal_text, placed, scale_of, scaled_tail}
use Rattle.interpolator_digits.specs.Digits.{digit_text}
use Rattle.interpolator_digits.specs.Exponent.{exponent_of, scientific, significant_digits, with_point}
use Rattle.interpolator_digits.proofs.DecimalLemmas.{plain_decimal, remainder_fits}
use Rattle.interpolator_digits.proofs.DigitLemmas.{digit_text_one, digit_text_some, digit_text_step, digit_text_zero}
use Rattle.interpolator_digits.proofs.ExponentLemmas.{digit_text_scaled, pow_some, scientific_plain, trimmed_other, trimmed_zero}
use Rattle.interpolator_digits.proofs.ExponentLemmas.{exponent_bounds_of, exponent_of_zero}
use Rattle.interpolator_digits.proofs.DigitLemmas.{glyph_some}
use Rattle.interpolator_floats.proofs.FormLemmas.{pow_less}
use Rattle.interpolator_floats.specs.ExponentTexts.{scientific_text, signed_tail}
use Rattle.interpolator_floats.specs.ShortestDigits.{IsTrimmed, plain_text}

-- ---- before the point and after it

split_plain : (d units : ℕ) → plain_text (units / 10 ^ d) 0 (units % 10 ^ d) d ≡ decimal_text None d units
split_plain d units =
    ap (λ x. digit_text 10 false (units / 10 ^ d) ++ after_point x) (sym (append-nil (placed d (units % 10 ^ d)))) ∙ plain_decimal d units

pub whole_plain : (digits up down : ℕ) → IsTrimmed digits up down → down ≡ 0 → plain_text digits up 0 0 ≡ decimal_text None down (digits * 10 ^ up)
whole_plain digits up down trim z =
    let units = digits * 10 ^ up in
    let all : digit_text 10 false units ≡ digit_text 10 false digits ++ replicate up 48 = elim (eq-zero-or-pos digits) [
      | inr p ↦ digit_text_scaled digits up p
      | inl e ↦
          let none : up ≡ 0 = (trim.last (omega (arith, e))).1 in
          let one : digits * 10 ^ up ≡ digits = ap (λ k. digits * 10 ^ k) none ∙ omega arith in
          ap (digit_text 10 false) one ∙ sym (append-nil (digit_text 10 false digits)) ∙ ap (λ k. digit_text 10 false digits ++ replicate k 48) (sym none)
    ] in
    ap (λ x. digit_text 10 false digits ++ x) (append-nil (replicate up 48)) ∙ sym all
    ∙ sym (append-nil (digit_text 10 false units)) ∙ ap (λ x. digit_text 10 false x ++ []) (sym (div-one units))
    ∙ split_plain 0 units ∙ ap (λ d. decimal_text None d units) (sym z)

no_tens : (digits up down : ℕ) → IsTrimmed digits up down → down ≢ 0 → digits * 10 ^ up ≡ digits
no_tens digits up down trim h = elim trim.one_way [
  | inl z ↦ ap (λ k. digits * 10 ^ k) z ∙ omega arith
  | inr z ↦ absurd (h z)
]

pub wide : (digits down : ℕ) → digits < 2 ^ 64 → 19 < down → digits < 10 ^ down
wide digits down h w = let l : 20 ≤ down = omega (arith, w) in let more : 10 ^ 20 ≤ 10 ^ down = pow-le-pow_right (omega arith) l in omega (arith, more, h)

pub wide_plain : (digits up down : ℕ) → IsTrimmed digits up down → down ≢ 0 → digits < 2 ^ 64 → 19 < down → plain_text 0 0 digits down ≡ decimal_text None down (digits * 10 ^ up)
wide_plain digits up down trim h short w =
    let less = wide digits down short w in
    (λ i. plain_text (sym (div-eq_of_lt less) i) 0 (sym (mod-eq_of_lt less) i) down) ∙ split_plain down digits ∙ ap (decimal_text None down) (sym (no_tens digits up down trim h))

pub short_plain : (digits up down : ℕ) → IsTrimmed digits up down → down ≢ 0 → plain_text (digits / 10 ^ down) 0 (digits % 10 ^ down) down ≡ decimal_text None down (digits * 10 ^ up)
short_plain digits up down trim h = split_plain down digits ∙ ap (decimal_text None down) (sym (no_tens digits up down trim h))

pub unit_fits : (down : ℕ) → down ≤ 19 → 10 ^ down < 2 ^ 64
unit_fits down h = let l : 10 ^ down ≤ 10 ^ 19 = pow-le-pow_right (omega arith) h in omega (arith, l)

pub ruleset plain_steps = (whole_plain, wide_plain, short_plain, unit_fits, pow_some, remainder_fits)

-- ---- exponent form

-- digits of which the last is no zero are all significant, and zeros after them are not
last_some : (n : ℕ) → n % 10 ≢ 0 → significant_digits (digit_text 10 false n) ≡ digit_text 10 false n
last_some n h = elim (eq-zero-or-pos (n - 9)) [
  | inl z ↦ grind (arith, z, digit_text_one)
  | inr p ↦ grind (arith, p, h, digit_text_step, trimmed_other, glyph_some)
]

less_tens : (n k : ℕ) → 0 < n → significant_digits (digit_text 10 false (n * 10 ^ k)) ≡ significant_digits (digit_text 10 false n)
less_tens n zero h = let one : n * 10 ^ 0 ≡ n = omega arith in ap (λ x. significant_digits (digit_text 10 false x)) one
less_tens n (suc k) h =
    let m = n * 10 ^ k in
    let ten : n * 10 ^ suc k ≡ m * 10 ^ 1 = ap (λ x. n * x) (pow-suc 10 k) ∙ sym (mul_assoc n (10 ^ k) 10) in
    let some : 0 < m = (let l : 1 * 10 ^ k ≤ n * 10 ^ k = mul-le-mul_right (10 ^ k) h in omega (arith, l, pow_some k)) in
    ap (λ x. significant_digits (digit_text 10 false x)) ten ∙ ap significant_digits (digit_text_scaled m 1 some)
    ∙ trimmed_zero (digit_text 10 false m) (digit_text_some 10 m false (omega arith)) ∙ less_tens n k h

exponent_at : (n e : ℕ) → 0 < n → 10 ^ e ≤ n → n < 10 ^ (e + 1) → exponent_of n ≡ e
exponent_at n e some low high =
    let own = exponent_bounds_of n some in
    let a : exponent_of n < e + 1 = pow_less _ _ (omega (arith, own.0, high)) in
    let b : e < exponent_of n + 1 = pow_less _ _ (omega (arith, own.1, low)) in omega (arith, a, b)

-- the exponent of digits with zeros after them
pub exponent_shown : (digits up log exponent : ℕ) → 10 ^ log ≤ digits → digits < 10 * 10 ^ log
    → exponent ≡ log + up → exponent ≡ exponent_of (digits * 10 ^ up)
exponent_shown digits up log exponent low high is =
    let units = digits * 10 ^ up in
    let u = 10 ^ up in
    let a : 10 ^ log * u ≤ units = mul-le-mul_right u low in
    let b : units < 10 * 10 ^ log * u = mul-lt-mul_of_pos_right high (pow_some up) in
    let p : 10 ^ (log + up) ≡ 10 ^ log * u = pow-add 10 log up in
    let next : 10 ^ (log + up + 1) ≡ 10 * 10 ^ log * u = pow-add 10 (log + up) 1 ∙ ap (λ x. x * 10) p ∙ omega arith in
    let U : 0 < units = omega (arith, a, p, pow_some (log + up)) in
    is ∙ sym (exponent_at units (log + up) U (omega (arith, a, p)) (omega (arith, b, next)))

pub exponent_zero : (digits up : ℕ) → digits ≡ 0 → 0 ≡ exponent_of (digits * 10 ^ up)
exponent_zero digits up z =
    let none : digits * 10 ^ up ≡ 0 = ap (λ x. x * 10 ^ up) z ∙ omega arith in
    sym (ap exponent_of none ∙ exponent_of_zero)

-- a logarithm of a number of 64 bits
pub small_log : (digits log : ℕ) → digits < 2 ^ 64 → 10 ^ log ≤ digits → log ≤ 20
small_log digits log h low =
    let wide : 2 ^ 64 < 10 ^ 20 = omega arith in
    let less : log < 20 = pow_less log 20 (omega (arith, h, low, wide)) in omega (arith, less)

pub scientific_shown : (digits up down exponent : ℕ) (below : Bool) (size : ℕ) → IsTrimmed digits up down → 0 < digits
    → exponent ≡ exponent_of (digits * 10 ^ up) → ((upper : Bool) → signed_tail upper below size ≡ scaled_tail upper exponent down)
    → (upper : Bool) → scientific_text upper (digit_text 10 false digits) 0 below size ≡ decimal_exponent_text upper None down (digits * 10 ^ up)
unfolding decimal_exponent_text
scientific_shown digits up down exponent below size trim some is tail upper =
    let units = digits * 10 ^ up in
    let U : 0 < units = (let l : 1 * 10 ^ up ≤ units = mul-le-mul_right (10 ^ up) some in omega (arith, l, pow_some up)) in
    let e : exponent_of units ≡ exponent = sym is in
    let row : significant_digits (digit_text 10 false units) ≡ digit_text 10 false digits =
    less_tens digits up some ∙ last_some digits (λ z. omega (arith, (trim.last z).0, some)) in
    let form = scientific_plain units in
    let scale : scale_of down units ≡ down = grind (arith, U) in
    (λ i. with_point (append-nil (digit_text 10 false digits) i) ++ tail upper i)
    ∙ sym ((λ i. with_point (form i).digits ++ scaled_tail upper (form i).exponent (scale i)) ∙ (λ i. with_point (row i) ++ scaled_tail upper (e i) down))

pub scientific_zero : (digits up down : ℕ) → digits ≡ 0 → (upper : Bool) → scientific_text upper (digit_text 10 false 0) 0 false 0 ≡ decimal_exponent_text upper None down (digits * 10 ^ up)
unfolding decimal_exponent_text
scientific_zero digits up down z upper =
    let none : digits * 10 ^ up ≡ 0 = ap (λ x. x * 10 ^ up) z ∙ omega arith in
    let text : digit_text 10 false 0 ≡ 48 ∷ [] = digit_text_zero 10 false 0 refl in
    let form = scientific_plain 0 in
    (λ i. with_point (append-nil (text i) i) ++ signed_tail upper false 0)
    ∙ sym (ap (λ u. with_point (scientific None u).digits ++ scaled_tail upper (scientific None u).exponent (scale_of down u)) none
    ∙ (λ i. with_point (form i).digits ++ scaled_tail upper (form i).exponent 0)
    ∙ (λ i. with_point (significant_digits (text i)) ++ scaled_tail upper (exponent_of_zero i) 0))
