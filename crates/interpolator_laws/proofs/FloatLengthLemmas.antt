-- How many characters a float has at a precision.
use Rattle.std.proofs.Common.{◌≡◌, arith, inl, inr, ℕ, ◌+◌, ◌-◌, ◌*◌, ◌/◌, ◌^◌, ◌<◌, ◌≤◌, max, Bool}
use Rattle.std.proofs.Common.{false, true, List, length, length-append, nat_lt, pow-add, Option}
use Rattle.std.proofs.Common.{None, Some, eq-zero-or-pos}
use Rattle.std.proofs.Math.Nat.{div-lt_iff_lt-mul, mul-le-mul_right, mul-lt-mul_of_pos_right}
use Rattle.std.proofs.Math.Nat.{one-le-pow, pow-le-pow_right}
use Rattle.std.proofs.{lemmas.Bool.cases_lt, lemmas.Bool.Decides.nat_tests}
use Rattle.std.specs.Float.{float_is_finite}
use Rattle.std.specs.Float.Ieee.{Float, Format, fin, inf, nan}
use lib.Ieee.Exact.{HasValue}
use Rattle.interpolator_digits.specs.Decimals.{after_point, decimal_exponent_text, decimal_text}
use Rattle.interpolator_digits.specs.Decimals.{scale_of, scaled_tail, units_at}
use Rattle.interpolator_digits.specs.Digits.{digit_text}
use Rattle.interpolator_digits.specs.Exponent.{exponent_of, nearest, scientific, with_point}
use Rattle.interpolator_digits.proofs.DecimalLemmas.{length-placed, remainder_fits}
use Rattle.interpolator_digits.proofs.DigitLemmas.{digit_text_zero, length-digit_text-le}
use Rattle.interpolator_digits.proofs.ExponentLemmas.{exponent_bounds_of, pow_some}
use Rattle.interpolator_floats.specs.Floats.{float_scale, float_units}
use Rattle.interpolator_floats.proofs.FormLemmas.{pow_less, units_value}
use Rattle.interpolator_render.specs.Forms.{decimal_body, float_body, worded}
use Rattle.interpolator_render.specs.Lengths.{IsBodyWithin, IsFloatWithin, most_decimal, most_text}
use Rattle.interpolator_render.specs.declared.view.Trait.{Trait}
use Rattle.interpolator_render.specs.declared.view.Trait.TheVariants.{Debug, Display, LowerExp}
use Rattle.interpolator_render.specs.declared.view.Trait.TheVariants.{UpperExp}

-- ---- digits before the point

-- a precision has exactly that many digits after the first
abbrev pub CountsPlaces : Type 0
CountsPlaces = (places n : ℕ) → length (scientific (Some places) n).digits ≡ places + 1

nearest_few : (n unit : ℕ) → nearest n unit ≤ n / unit + 1
nearest_few n unit = grind (arith, nat_lt)

fewer_units : (places scale units : ℕ) → places < scale → units < 10 ^ 38 * 10 ^ scale
    → units / 10 ^ (scale - places) < 10 ^ 38 * 10 ^ places
fewer_units places scale units h few =
    let split = pow-add 10 places (scale - places) in
    (div-lt_iff_lt-mul (pow_some (scale - places))).1 (grind (arith, split))

more_units : (places scale units : ℕ) → scale ≤ places → units < 10 ^ 38 * 10 ^ scale
    → units * 10 ^ (places - scale) < 10 ^ 38 * 10 ^ places
more_units places scale units h few =
    let split = pow-add 10 scale (places - scale) in
    let more = mul-lt-mul_of_pos_right few (pow_some (places - scale)) in grind (arith, split, more)

count_within : (places scale units : ℕ) → units < 10 ^ 38 * 10 ^ scale
    → units_at places scale units < 10 ^ 39 * 10 ^ places
count_within places scale units few =
    grind (arith, cases_lt, nat_lt, nearest_few, fewer_units, more_units, pow_some)

whole_within : (places scale units : ℕ) → units < 10 ^ 38 * 10 ^ scale
    → units_at places scale units / 10 ^ places < 10 ^ 39
whole_within places scale units few =
    (div-lt_iff_lt-mul (pow_some places)).1 (count_within places scale units few)

-- ---- texts at a precision

length-pointed : (digits : List ℕ) → length (after_point digits) ≤ length digits + 1
length-pointed digits = grind arith

plain_within : (places scale units : ℕ) → units < 10 ^ 38 * 10 ^ scale
    → length (decimal_text (Some places) scale units) ≤ places + 40
unfolding decimal_text
plain_within places scale units few =
    let count = units_at places scale units in
    let whole = length-digit_text-le 10 39 (count / 10 ^ places) false (omega arith) (omega arith)
    (whole_within places scale units few) in
    grind (arith, length-append, length-pointed, length-placed, remainder_fits)

ten_digits : (n : ℕ) → n < 10 ^ 10 → length (digit_text 10 false n) ≤ 10
ten_digits n h = length-digit_text-le 10 10 n false (omega arith) (omega arith) h

tail_within : (upper : Bool) (exponent scale : ℕ) → exponent ≤ scale + 2000
    → scale ≤ exponent + 2000 → length (scaled_tail upper exponent scale) ≤ 12
tail_within upper exponent scale high low =
    let below = ten_digits (scale - exponent) (omega (arith, low)) in
    let above = ten_digits (exponent - scale) (omega (arith, high)) in
    grind (arith, cases_lt exponent scale, nat_lt)

length-with_point : (digits : List ℕ) → length (with_point digits) ≤ length digits + 1
length-with_point digits = grind arith

exponent_within : (scale units : ℕ) → units < 10 ^ 38 * 10 ^ scale → exponent_of units ≤ scale + 38
exponent_within scale units few =
    let split = pow-add 10 38 scale in
    let most = length-digit_text-le 10 (38 + scale) units false (omega arith) (omega arith)
    (grind (arith, split)) in omega (arith, most)

rounded_exponent : (places n : ℕ) → (exponent_of n ≤ (scientific (Some places) n).exponent)
    × ((scientific (Some places) n).exponent ≤ exponent_of n + 1)
unfolding scientific
rounded_exponent places n = grind (arith, nat_lt)

-- units of 10 ^ -scale below 10 ^ 38, and not far below 1 if there are any
pub record IsNear (scale units : ℕ) : Type 0 where
  pub few : units < 10 ^ 38 * 10 ^ scale
  pub many : scale_of scale units ≤ exponent_of units + 324

high_scale : (scale units : ℕ) → IsNear scale units → exponent_of units ≤ scale_of scale units + 38
high_scale scale units near =
    let most = exponent_within scale units near.few in
    let zero = digit_text_zero 10 false units in
    grind (arith, most, zero, eq-zero-or-pos units, nat_tests)

scaled_within : CountsPlaces → (upper : Bool) (places scale units : ℕ) → IsNear scale units
    → length (decimal_exponent_text upper (Some places) scale units) < places + 15
unfolding decimal_exponent_text
scaled_within counts upper places scale units near =
    let digits = counts places units in
    let rounded = rounded_exponent places units in
    let high = high_scale scale units near in
    let low = near.many in
    let tail = tail_within upper (scientific (Some places) units).exponent (scale_of scale units)
    (omega (arith, rounded, high)) (omega (arith, rounded, low)) in
    let first = length-with_point (scientific (Some places) units).digits in
    grind (arith, length-append, tail, first, digits)

decimal_within : CountsPlaces → (most : ℕ) (t : Trait) (places scale units : ℕ)
    → IsNear scale units → IsBodyWithin (max (most_decimal t (Some places)) (most_text t most))
    (decimal_body t (Some places) scale units)
decimal_within counts most Display places scale units near =
    let text = plain_within places scale units near.few in omega (arith, text)
decimal_within counts most Debug places scale units near =
    let text = plain_within places scale units near.few in omega (arith, text)
decimal_within counts most LowerExp places scale units near =
    let text = scaled_within counts false places scale units near in omega (arith, text)
decimal_within counts most UpperExp places scale units near =
    let text = scaled_within counts true places scale units near in omega (arith, text)
decimal_within counts most _ places scale units near = tt

-- ---- floats

-- a float of so many steps of 2 ^ -1074 has few units
few_units : (x : Float) (negative : Bool) (a : ℕ) → HasValue x negative a (2 ^ 1074) → a < 2 ^ 1200
    → float_units x < 10 ^ 38 * 10 ^ float_scale x
few_units x negative a value few =
    let same = units_value x negative a value in
    let less = mul-lt-mul_of_pos_right few (pow_some (float_scale x)) in
    omega (arith, same, less)

-- and if it has any, its scale is not far above its exponent
many_units : (x : Float) (negative : Bool) (a : ℕ) → HasValue x negative a (2 ^ 1074)
    → scale_of (float_scale x) (float_units x) ≤ exponent_of (float_units x) + 324
many_units x negative a value =
    let same = units_value x negative a value in
    elim (eq-zero-or-pos (float_units x)) [
      | inl none ↦ rw none (omega arith)
      | inr some ↦ elim (eq-zero-or-pos a) [
        | inl none ↦ absurd (omega (arith, some, rw none at same))
        | inr steps ↦
            let e = exponent_of (float_units x) in
            let below = (exponent_bounds_of (float_units x) some).1 in
            let split = pow-add 10 (e + 1) 324 in
            let least : 1 * 10 ^ float_scale x ≤ a * 10 ^ float_scale x =
            mul-le-mul_right (10 ^ float_scale x) (omega (arith, steps)) in
            let most = pow_less (float_scale x) (e + 1 + 324)
            (omega (arith, same, below, split, least)) in
            let low : scale_of (float_scale x) (float_units x) ≤ float_scale x = grind arith in
            omega (arith, most, low)
      ]
    ]

few_steps : (mantissa power : ℕ) → mantissa < 2 ^ 53 → power ≤ 1147
    → mantissa * 2 ^ power < 2 ^ 1200
few_steps mantissa power short low =
    let some : 0 < 2 ^ power = omega (arith, one-le-pow power 2 (omega arith)) in
    let less = mul-lt-mul_of_pos_right short some in
    let most : 2 ^ power ≤ 2 ^ 1147 = pow-le-pow_right (omega arith) low in
    omega (arith, less, most)

-- a float's texts without a precision are within a limit
abbrev pub IsShort : (most : ℕ) → Format → Float → Type 0
IsShort most format x = (t : Trait)
    → IsBodyWithin (max (most_decimal t None) (most_text t most)) (float_body format t None x)

pub finite_within : CountsPlaces → (most : ℕ) (format : Format) (x : Float) (negative : Bool)
    (mantissa power : ℕ) → HasValue x negative (mantissa * 2 ^ power) (2 ^ 1074)
    → mantissa < 2 ^ 53 → power ≤ 1147 → IsShort most format x → IsFloatWithin most format x
finite_within counts most format (fin s m e) negative mantissa power value few low short =
    λ t precision. each t precision
  where
    steps : mantissa * 2 ^ power < 2 ^ 1200
    steps = few_steps mantissa power few low

    each : (t : Trait) (precision : Option ℕ)
        → IsBodyWithin (max (most_decimal t precision) (most_text t most))
        (float_body format t precision (fin s m e))
    each t None = short t
    each t (Some places) = decimal_within counts most t places _ _ (record {
      few = few_units (fin s m e) negative _ value steps;
      many = many_units (fin s m e) negative _ value;
    })
finite_within counts most format nan negative mantissa power value few low short = absurd value
finite_within counts most format (inf s) negative mantissa power value few low short = absurd value

-- a word of three letters has no more than any precision lets through
three_letters : (most : ℕ) (t : Trait) (places : ℕ) (word : List ℕ) → length word ≤ 3
    → IsBodyWithin (max (most_decimal t (Some places)) (most_text t most)) (worded t word)
three_letters most Display places word h = omega (arith, h)
three_letters most Debug places word h = omega (arith, h)
three_letters most LowerExp places word h = omega (arith, h)
three_letters most UpperExp places word h = omega (arith, h)
three_letters most _ places word h = tt

pub word_within : (most : ℕ) (format : Format) (x : Float) → float_is_finite x ≡ false
    → IsShort most format x → IsFloatWithin most format x
unfolding float_is_finite
word_within most format (fin s m e) h short = absurd (grind arith)
word_within most format nan h short = λ t precision. each t precision
  where
    each : (t : Trait) (precision : Option ℕ)
        → IsBodyWithin (max (most_decimal t precision) (most_text t most))
        (float_body format t precision nan)
    each t None = short t
    each t (Some places) = three_letters most t places _ (omega arith)
word_within most format (inf s) h short = λ t precision. each t precision
  where
    each : (t : Trait) (precision : Option ℕ)
        → IsBodyWithin (max (most_decimal t precision) (most_text t most))
        (float_body format t precision (inf s))
    each t None = short t
    each t (Some places) = three_letters most t places _ (omega arith)
