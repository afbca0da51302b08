-- How many digits a number has in exponent form, and between which powers it lies.
use Rattle.std.proofs.Common.{◌≡◌, ℕ, ◌<◌, ◌≤◌, ◌-◌, ◌+◌, ◌*◌, ◌^◌, false, List, length, replicate}
use Rattle.std.proofs.Common.{◌++◌, zero, refl, arith, length-append, suc, Some, pow-add, pow-suc}
use Rattle.std.proofs.Common.{eq-zero-or-pos, lt_of_mul-lt-mul_right}
use Rattle.std.proofs.{lemmas.Grind.common_steps, lemmas.Bool.cases_eq, lemmas.Bool.cases_lt}
use Rattle.std.proofs.{lemmas.List.length-replicate, Math.Nat.pow-le-pow_right}
use Rattle.interpolator_digits.specs.{Digits.digit_text, Exponent.exponent_of, Exponent.nearest}
use Rattle.interpolator_digits.specs.{Exponent.rounding, Exponent.scientific, Exponent.IsNearest}
use Rattle.interpolator_digits.proofs.DigitLemmas.{digit_text_some, digit_text_zero}
use Rattle.interpolator_digits.proofs.DigitLemmas.{length-digit_text-le}
use Rattle.interpolator_digits.proofs.ExponentLemmas.{pow_some, scientific_short, scientific_long}
use Rattle.interpolator_digits.proofs.ExponentLemmas.{scientific_placed, exponent_bounds_of}
use Rattle.std.specs.Str.Parse.{digits_value}
use Rattle.interpolator_render.proofs.LawLemmas.{nearest_is_nearest, digits_read}

-- a number between two powers of ten has one digit more than the lower says
pub digits_between : (n places : ℕ) → 10 ^ places ≤ n → n < 10 ^ (places + 1) →
    length (digit_text 10 false n) ≡ places + 1
digits_between n places low high =
    let some = pow_some places in
    let bounds = exponent_bounds_of n (omega arith) in
    let one = digit_text_some 10 n false (omega arith) in
    let most = length-digit_text-le 10 (places + 1) n false (omega arith) (omega arith) high in
    grind (arith, cases_lt (exponent_of n) places, pow-le-pow_right)

-- the nearest number of units lies between the powers that the quotient lies between
nearest_within : (n unit low high count : ℕ) → 0 < unit → low * unit ≤ n → n < high * unit →
    IsNearest n unit count → (low ≤ count) × (count ≤ high)
nearest_within n unit low high count u l h p = grind (arith, lt_of_mul-lt-mul_right)

-- what the exponent says of a number, split at the places that are kept
split_bounds : (n places rest exponent : ℕ) → places + rest ≡ exponent → 10 ^ exponent ≤ n →
    n < 10 ^ (exponent + 1) →
    (10 ^ places * 10 ^ rest ≤ n) × (n < 10 ^ (places + 1) * 10 ^ rest)
split_bounds n places rest exponent e low high =
    grind (arith, pow-add 10 places rest, pow-add 10 (places + 1) rest)

next_power : (places : ℕ) → 10 ^ places < 10 ^ (places + 1)
next_power places = grind (arith, common_steps, pow_some, pow-suc)

some_exponent : (n : ℕ) → 0 < exponent_of n → 0 < n
some_exponent n h = grind (arith, eq-zero-or-pos, digit_text_zero)

rounded_count : (places n : ℕ) → places < exponent_of n →
    length (rounding places n (exponent_of n)).digits ≡ places + 1
rounded_count places n h =
    let unit = 10 ^ (exponent_of n - places) in
    let bounds = exponent_bounds_of n (some_exponent n (omega arith)) in
    let split = split_bounds n places (exponent_of n - places) (exponent_of n) (omega arith)
    bounds.0 bounds.1 in
    let some = pow_some (exponent_of n - places) in
    let within = nearest_within n unit (10 ^ places) (10 ^ (places + 1)) (nearest n unit) some
    split.0 split.1 (nearest_is_nearest n unit some) in
    grind (arith, cases_eq (nearest n unit) (10 ^ (places + 1)), digits_between, next_power)

-- with a precision there are exactly that many digits after the first
pub scientific_count : (places n : ℕ) → length (scientific (Some places) n).digits ≡ places + 1
scientific_count places n =
    grind (arith, cases_lt, scientific_long, rounded_count, scientific_placed, length-append, length-replicate, digit_text_some)

-- ---- what the digits make

pub value_of_zeros : (count : ℕ) (digits : List ℕ) → digits_value 10 (replicate count 48 ++ digits)
    ≡ digits_value 10 digits
value_of_zeros zero digits = refl
value_of_zeros (suc count) digits = value_of_zeros count digits

-- if the number has no more digits, they are its own and zeros
pub scientific_whole : (places n : ℕ) → exponent_of n ≤ places →
    ((scientific (Some places) n).exponent ≡ exponent_of n)
    × (digits_value 10 (scientific (Some places) n).digits ≡ n * 10 ^ (places - exponent_of n))
scientific_whole places n h = grind (arith, value_of_zeros, digits_read, scientific_short)

-- a carry raises the exponent by one
rounded_value : (places n exponent : ℕ) → places < exponent →
    (places ≤ (rounding places n exponent).exponent)
    × (digits_value 10 (rounding places n
    exponent).digits * 10 ^ ((rounding places n exponent).exponent - places)
    ≡ nearest n (10 ^ (exponent - places)) * 10 ^ (exponent - places))
rounded_value places n exponent h =
    let carried = pow-add 10 places (exponent + 1 - places) in
    let whole = pow-add 10 (places + 1) (exponent - places) in grind (arith, cases_eq, digits_read)

-- if it has more, they and the exponent make the nearest number of units
pub scientific_rounded : (places n : ℕ) → places < exponent_of n →
    (places ≤ (scientific (Some places) n).exponent)
    × (digits_value 10 (scientific (Some places)
    n).digits * 10 ^ ((scientific (Some places) n).exponent - places)
    ≡ nearest n (10 ^ (exponent_of n - places)) * 10 ^ (exponent_of n - places))
scientific_rounded places n h = grind (arith, scientific_long, rounded_value)

pub ruleset scientific_laws = (scientific_count, scientific_whole, scientific_rounded)
