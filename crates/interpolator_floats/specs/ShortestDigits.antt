-- The shortest digits of a float, as a function.
use Rattle.std.specs.Prelude.{ℕ, zero, suc, ◌≡◌, ◌⊎◌, ◌+◌, ◌-◌, ◌*◌, ◌/◌, ◌%◌, ◌^◌, max, Bool}
use Rattle.std.specs.Prelude.{false, if◌then◌else◌, ◌==◌, ◌&&◌, nat_lt, nat_le, None, List, ◌++◌}
use Rattle.std.specs.Prelude.{replicate}
use lib.Ieee.{Float, Format, fin, up, down, low, prec}
use lib.Ieee.Order.{drop}
use Rattle.interpolator_digits.specs.Decimals.{after_point, decimal_exponent_text, decimal_text}
use Rattle.interpolator_digits.specs.Decimals.{placed}
use Rattle.interpolator_digits.specs.{Characters.zero_digit, Digits.digit_text}
use Rattle.interpolator_floats.specs.declared.shortest.Shortest.{Shortest}
use Rattle.interpolator_floats.specs.Shortest.{units_down, units_up}

-- the greatest number up to a bound at which a test holds, or 0
unfoldable pub greatest : (ℕ → Bool) → ℕ → ℕ
greatest test zero = zero
greatest test (suc n) = if test (suc n) then suc n else greatest test n

-- of the counts whose units lie between n - below and n + above the one of tens, or if there is
-- none the nearest, of two the greater
abbrev pub chosen : (n unit below above : ℕ) → ℕ
chosen n unit below above =
    let least = (n - below) / unit + 1 in
    let most = (n + above - 1) / unit in
    let near = (2 * n / unit + 1) / 2 in
    let tens = most - most % 10 in
    if nat_le least tens then tens else max least near

-- a count of units of 10 ^ (place - 324), without the zeros at its end
abbrev pub trimmed : (count place : ℕ) → Shortest
trimmed count place =
    let zeros = greatest (λ k. count % 10 ^ k == 0) 19 in
    record { digits = count / 10 ^ zeros; up = place + zeros - 324; down = 324 - (place + zeros) }

-- units of 10 ^ (place - 324) are no wider than `half` and two quarters of a step
abbrev pub is_fine : (power half place : ℕ) → Bool
is_fine power half place = nat_le (units_up place) ((half + 2) * units_down power 324)

-- the counts of units of 10 ^ (place - 324) that read as mantissa * 2 ^ power steps of 2 ^ -1074
-- lie within `half` quarters of a step below and two above; the bounds count if the mantissa is even
abbrev pub chosen_at : (mantissa power half place : ℕ) → ℕ
chosen_at mantissa power half place =
    let step = units_down power (324 - place) in
    let slack = if mantissa % 2 == 0 then 1 else 0 in
    chosen (4 * (mantissa * step)) (units_up (place - 324)) (half * step + slack) (2 * step + slack)

-- at the greatest power of ten that is fine enough
abbrev pub digits_of : (mantissa power half : ℕ) → Shortest
digits_of mantissa power half =
    let place = greatest (is_fine power half) 640 in
    trimmed (chosen_at mantissa power half place) place

-- of a format's least steps; the lower neighbour of a power of two is half as far
abbrev pub digits_of_steps : (format : Format) → (steps : ℕ) → Shortest
digits_of_steps format steps =
    let k = drop (prec format) steps 1 in
    let mantissa = steps / 2 ^ k in
    let half = if nat_lt 0 k && (mantissa == 2 ^ (prec format - 1)) then 1 else 2 in
    if steps == 0 then record { digits = 0; up = 0; down = 0 }
    else digits_of mantissa (k + (1074 - low format)) half

-- the shortest digits of a finite float of a format
unfoldable pub shortest : (format : Format) → Float → Shortest
shortest format (fin negative m e) = digits_of_steps format (m * up e * 2 ^ low format / down e)
shortest format _ = record { digits = 0; up = 0; down = 0 }

-- digits without zeros at their end, by one way up or down; of zero the digit 0
pub record IsTrimmed (digits up down : ℕ) : Type 0 where
  pub one_way : up ≡ 0 ⊎ down ≡ 0
  pub last : digits % 10 ≡ 0 → (digits ≡ 0) × (up ≡ 0)

-- the text of digits, and their text in exponent form
abbrev pub shortest_text : Shortest → List ℕ
shortest_text shown = decimal_text None shown.down (shown.digits * 10 ^ shown.up)

abbrev pub shortest_exponent_text : (upper : Bool) → Shortest → List ℕ
shortest_exponent_text upper shown =
    decimal_exponent_text upper None shown.down (shown.digits * 10 ^ shown.up)

-- a number with zeros after it, a point if digits follow, and exactly `places` digits
abbrev pub plain_text : (whole tens part places : ℕ) → List ℕ
plain_text whole tens part places =
    digit_text 10 false whole ++ (replicate tens zero_digit ++ after_point (placed places part))
