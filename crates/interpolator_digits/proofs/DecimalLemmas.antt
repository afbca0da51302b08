-- Decimals: rounded to a power of ten, split at the point, and filled with zeros.
use Rattle.std.proofs.Common.{◌≡◌, ℕ, ◌<◌, ◌≤◌, ◌-◌, ◌+◌, ◌*◌, ◌/◌, ◌%◌, ◌^◌, false, [], ◌++◌}
use Rattle.std.proofs.Common.{length, replicate, refl, arith, append_assoc, append-nil}
use Rattle.std.proofs.Common.{length-append, nat_lt, None, Some, eq-zero-or-pos, pow-add}
use Rattle.std.proofs.lemmas.List.{length-replicate, replicate-append-replicate}
use Rattle.std.proofs.Math.Nat.{div-div-eq-div-mul, mul-div_cancel, mul-mod_left, div-eq_of_lt}
use Rattle.std.proofs.Math.Nat.{mod-eq_of_lt, pow-le-pow_right}
use Rattle.std.proofs.{lemmas.Grind.common_steps, Math.Arith.mod-mul}
use Rattle.interpolator_digits.specs.Decimals.{placed, units_text, decimal_text, split_text}
use Rattle.interpolator_digits.specs.{Digits.digit_text, Exponent.nearest, Exponent.with_zeros}
use Rattle.interpolator_digits.proofs.DigitLemmas.{digit_text_zero, length-digit_text-le}
use Rattle.interpolator_digits.proofs.ExponentLemmas.{pow_some, pow_more, digit_text_scaled}

-- ---- powers past every number of 128 bits

pub wide_power : (k : ℕ) → 38 < k → 2 ^ 128 + 2 ^ 128 < 10 ^ k
wide_power k h = let more : 10 ^ 39 ≤ 10 ^ k = pow-le-pow_right (omega arith) h in omega arith

pub rounded_away : (n k : ℕ) → n < 2 ^ 128 → 38 < k → 0 ≡ nearest n (10 ^ k)
rounded_away n k h w = grind (arith, wide_power, div-eq_of_lt, mod-eq_of_lt, nat_lt)

pub ruleset roundings = (rounded_away, pow_more)

pub wide_quotient : (n k : ℕ) → n < 2 ^ 128 → 38 < k → 0 ≡ n / 10 ^ k
wide_quotient n k h w = grind (arith, wide_power k w)

pub wide_remainder : (n k : ℕ) → n < 2 ^ 128 → 38 < k → n ≡ n % 10 ^ k
wide_remainder n k h w = grind (arith, wide_power k w)

pub ruleset splits = (wide_quotient, wide_remainder, pow_some)

-- ---- zeros after the last digit

pub scaled_quotient : (n unit k : ℕ) → 0 < k → n * k / (unit * k) ≡ n / unit
scaled_quotient n unit k h = grind (arith, div-div-eq-div-mul (n * k) k unit, mul-div_cancel n h)

pub scaled_remainder : (n unit k : ℕ) → 0 < unit → 0 < k → n * k % (unit * k) ≡ n % unit * k
scaled_remainder n unit k u h = grind (arith, mod-mul, mul-div_cancel, mul-mod_left)

pub placed_none : (places part : ℕ) → places ≡ 0 → placed places part ≡ []
placed_none places part e = rw e refl

pub placed_some : (places part : ℕ) → 0 < places →
    placed places part ≡ with_zeros places (digit_text 10 false part)
placed_some places part h = grind arith

zeros_placed : (places : ℕ) → placed places 0 ≡ replicate places 48
zeros_placed places =
    grind (arith, common_steps, placed_some, digit_text_zero, replicate-append-replicate)

pub length-placed : (places part : ℕ) → part < 10 ^ places → length (placed places part) ≡ places
length-placed places part h =
    grind (arith, length-digit_text-le, length-append, length-replicate, placed_some)

digits_after : (places count part : ℕ) → 0 < part → 0 < places →
    placed (places + count) (part * 10 ^ count) ≡ placed places part ++ replicate count 48
digits_after places count part some h =
    grind (arith, length-append, length-replicate, placed_some, digit_text_scaled, append_assoc)

-- the digits after the point, and zeros after them, are those of the number with so many zeros
pub placed_more : (places count part : ℕ) → part < 10 ^ places →
    placed (places + count) (part * 10 ^ count) ≡ placed places part ++ replicate count 48
placed_more places count part h =
    let cases = eq-zero-or-pos part in let whole = eq-zero-or-pos places in
    grind (arith, zeros_placed, replicate-append-replicate, digits_after)

-- ---- the whole

split_more : (count places more : ℕ) →
    split_text (count / 10 ^ places) (count % 10 ^ places) places more
    ≡ units_text (places + more) (count * 10 ^ more)
split_more count places more =
    grind (arith, pow_some, pow-add, scaled_quotient, scaled_remainder, placed_more)

pub plain_decimal : (scale units : ℕ) →
    split_text (units / 10 ^ scale) (units % 10 ^ scale) scale 0 ≡ decimal_text None scale units
unfolding decimal_text
plain_decimal scale units = grind (arith, nat_lt, append-nil)

pub rounded_decimal : (places scale units : ℕ) → places < scale →
    split_text (nearest units (10 ^ (scale - places)) / 10 ^ places)
    (nearest units (10 ^ (scale - places)) % 10 ^ places) places 0
    ≡ decimal_text (Some places) scale units
unfolding decimal_text
rounded_decimal places scale units h = grind (arith, nat_lt, append-nil)

pub longer_decimal : (places scale units : ℕ) → scale ≤ places →
    split_text (units / 10 ^ scale) (units % 10 ^ scale) scale (places - scale)
    ≡ decimal_text (Some places) scale units
unfolding decimal_text
longer_decimal places scale units h = grind (arith, common_steps, nat_lt, split_more)

-- what is after the point is less than a unit before it
pub remainder_fits : (count places : ℕ) → count % 10 ^ places < 10 ^ places
remainder_fits count places = grind (arith, pow_some)

-- the unit of a short scale fits 64 bits
pub short_unit : (scale : ℕ) → scale ≤ 19 → 10 ^ scale < 2 ^ 64
short_unit scale h = grind (arith, pow-le-pow_right)

pub ruleset short_units = (short_unit, pow_some, plain_decimal, remainder_fits)

pub ruleset point_splits = (plain_decimal, rounded_decimal, longer_decimal, remainder_fits)
