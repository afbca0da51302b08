-- Exponent form as it is defined: powers of ten, zeros at the end and after.
use Rattle.std.proofs.Common.{◌≡◌, ◌≢◌, ℕ, zero, suc, ◌<◌, ◌≤◌, ◌-◌, ◌+◌, ◌*◌, ◌/◌, ◌%◌, ◌^◌, true}
use Rattle.std.proofs.Common.{false, List, [], ◌∷◌, ◌++◌, length, map, replicate, refl, sym, ◌∙◌}
use Rattle.std.proofs.Common.{ap, arith, rules, append_assoc, append-nil, length-append, ◌==◌, inl}
use Rattle.std.proofs.Common.{inr, None, Some, nat_lt, pow-suc, mul_assoc, mul-le-mul_left}
use Rattle.std.proofs.Common.{eq-zero-or-pos}
use Rattle.std.proofs.lemmas.Int.Digits.{all_below_base_digits_of, digits_of_step}
use Rattle.std.proofs.lemmas.Int.Digits.{length-digits_of-le, length-digits_of_step}
use Rattle.std.proofs.lemmas.Int.Digits.{number_digits_of, number_lt}
use Rattle.std.proofs.lemmas.List.{length-map, map-append, replicate-append-replicate}
use Rattle.std.proofs.lemmas.List.{length-replicate}
use Rattle.std.proofs.{lemmas.Grind.common_steps, Math.Nat.one-le-pow, Math.Bool.and-false}
use Rattle.std.specs.{Fmt.digit_glyph, Int.Digits.digits_of}
use Rattle.interpolator_digits.specs.Digits.{digit_text}
use Rattle.interpolator_digits.specs.Exponent.{exponent_of, less_zeros, significant_digits}
use Rattle.interpolator_digits.specs.Exponent.{with_zeros, scientific, rounding}
use Rattle.interpolator_digits.proofs.DigitLemmas.{digit_text_zero, digit_text_map, digit_text_some}

-- ---- powers of ten

pub pow_some : (k : ℕ) → 0 < 10 ^ k
pow_some k = grind (arith, one-le-pow)

pub pow_more : (k : ℕ) → 0 < k → 10 ≤ 10 ^ k
pow_more zero h = absurd (omega arith)
pow_more (suc k) h = grind (arith, one-le-pow, pow-suc)

-- ---- exponents

pub exponent_bounds_of : (n : ℕ) → 0 < n → (10 ^ exponent_of n ≤ n) × (n < 10 ^ (exponent_of n + 1))
exponent_bounds_of n h =
    let low = all_below_base_digits_of 10 n (omega arith) in
    let above = rw (number_digits_of 10 n (omega arith)) at (number_lt 10 (digits_of 10 n) low) in
    let few = length-digits_of-le 10 (length (digits_of 10 n) - 1) n (omega arith) in
    grind (arith, digit_text_map, length-map, length-digits_of_step, few)

-- zero has one digit
pub exponent_of_zero : exponent_of 0 ≡ 0
exponent_of_zero = grind (arith, digit_text_zero)

-- ---- the zeros at the end

less_zeros_zero : (digits : List ℕ) → less_zeros (digits ++ 48 ∷ []) ≡ less_zeros digits
less_zeros_zero [] = refl
less_zeros_zero (digit ∷ digits) = rw (less_zeros_zero digits) refl

less_zeros_other : (digits : List ℕ) (last : ℕ) → last ≢ 48 → less_zeros (digits ++ last ∷ [])
    ≡ digits ++ last ∷ []
less_zeros_other [] last h = grind arith
less_zeros_other (digit ∷ digits) last h =
    grind (arith, length-append, and-false, less_zeros_other digits last h)

pub trimmed_zero : (digits : List ℕ) → 0 < length digits → significant_digits (digits ++ 48 ∷ [])
    ≡ significant_digits digits
trimmed_zero digits h = grind (arith, less_zeros_zero)

pub trimmed_other : (digits : List ℕ) (last : ℕ) → last ≢ 48 → significant_digits (digits ++ last ∷ [])
    ≡ digits ++ last ∷ []
trimmed_other [] last h = refl
trimmed_other (digit ∷ digits) last h = grind (arith, less_zeros_other)

-- ---- zeros after

digits_scaled : (n k : ℕ) → 0 < n → digits_of 10 (n * 10 ^ k) ≡ digits_of 10 n ++ replicate k 0
digits_scaled n zero h = let one : n * 10 ^ 0 ≡ n = omega arith in
    rw (one, append-nil (digits_of 10 n)) refl
digits_scaled n (suc k) h =
    let wide : n * 10 ^ suc k ≡ n * 10 ^ k * 10 = rw (pow-suc 10 k) (sym (mul_assoc n (10 ^ k) 10))
    in
    let some : 0 < n * 10 ^ k * 10 = let more = mul-le-mul_left n (one-le-pow k 10 (omega arith)) in
    omega arith in
    let step = digits_of_step 10 (n * 10 ^ k * 10) (omega arith) some in
    let quotient : n * 10 ^ k * 10 / 10 ≡ n * 10 ^ k = omega arith in
    let last : n * 10 ^ k * 10 % 10 ≡ 0 = omega arith in
    let e : k + 1 ≡ suc k = omega arith in
    rw (wide, step, quotient, last, digits_scaled n k h, append_assoc)
    (ap (λ (x : List ℕ). digits_of 10 n ++ x)
    (replicate-append-replicate k 1 0 ∙ ap (λ (m : ℕ). replicate m 0) e))

glyphs_of_zeros : (k : ℕ) → map (digit_glyph false) (replicate k 0) ≡ replicate k 48
glyphs_of_zeros zero = refl
glyphs_of_zeros (suc k) = grind (arith, glyphs_of_zeros k)

pub digit_text_scaled : (n k : ℕ) → 0 < n → digit_text 10 false (n * 10 ^ k) ≡ digit_text 10 false n
    ++ replicate k 48
digit_text_scaled n k h =
    grind (arith, mul-le-mul_left, one-le-pow, digit_text_map, digits_scaled, map-append, glyphs_of_zeros)

-- the digits and the zeros after them are the digits of the number with so many places
pub digits_placed : (n places : ℕ) → exponent_of n ≤ places →
    digit_text 10 false n ++ replicate (places - exponent_of n) 48
    ≡ with_zeros (places + 1) (digit_text 10 false (n * 10 ^ (places - exponent_of n)))
digits_placed n places h =
    grind (arith, common_steps, eq-zero-or-pos, digit_text_zero, replicate-append-replicate, digit_text_scaled, length-append, length-replicate, digit_text_some)

pub scientific_plain : (n : ℕ) → scientific None n
    ≡ record { digits = significant_digits (digit_text 10 false n); exponent = exponent_of n }
unfolding scientific
scientific_plain n = refl

pub scientific_short : (places n : ℕ) → exponent_of n ≤ places → scientific (Some places) n
    ≡ record {
      digits = with_zeros (places + 1) (digit_text 10 false (n * 10 ^ (places - exponent_of n)));
      exponent = exponent_of n;
    }
unfolding scientific
scientific_short places n h = grind (arith, nat_lt)

-- a short number as its own digits, with the zeros after them
pub scientific_placed : (places n : ℕ) → exponent_of n ≤ places → scientific (Some places) n
    ≡ record {
      digits = digit_text 10 false n ++ replicate (places - exponent_of n) 48;
      exponent = exponent_of n;
    }
scientific_placed places n h = grind (arith, scientific_short, digits_placed)

pub scientific_long : (places n : ℕ) → places < exponent_of n →
    scientific (Some places) n ≡ rounding places n (exponent_of n)
unfolding scientific
scientific_long places n h = grind (arith, nat_lt)

-- for digits and exponent at a precision
pub ruleset scientific_steps = (scientific_plain, scientific_long, scientific_placed, append-nil)
