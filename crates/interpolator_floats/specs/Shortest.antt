-- The shortest digits of a float.
use Rattle.std.specs.Prelude.{ℕ, suc, ◌≡◌, ◌⊎◌, ◌+◌, ◌-◌, ◌*◌, ◌/◌, ◌^◌, ◌<◌, ◌≤◌, false}
use lib.{Ieee.Format, Ieee.emax, Ieee.low, Ieee.prec, Ieee.round, Ieee.Exact.HasValue}
use Rattle.interpolator_digits.specs.Exponent.{distance}

-- of a format's floats the one of so many steps of 2 ^ -1074 is nearest to n / d, that of the even
-- mantissa on a tie
abbrev pub ReadsAs : Format → (steps n d : ℕ) → Type 0
ReadsAs format steps n d = HasValue (round format false n d) false steps (2 ^ 1074)

-- a number has no more digits than another
abbrev pub IsNoLonger : ℕ → ℕ → Type 0
IsNoLonger a b = (k : ℕ) → 10 ^ k ≤ a → 10 ^ k ≤ b

-- how far n / d lies from so many steps, in parts of 2 ^ -1074 / d
abbrev pub far_off : (steps n d : ℕ) → ℕ
far_off steps n d = distance (steps * d) (n * 2 ^ 1074)

-- digits * 10 ^ up / 10 ^ down reads as the float; nothing that does has fewer digits, and of what has
-- as many nothing is nearer, and nothing as near is greater
pub record IsShortest (format : Format) (steps digits up down : ℕ) : Type 0 where
  pub reads : ReadsAs format steps (digits * 10 ^ up) (10 ^ down)
  pub fewest : (other more less : ℕ) → ReadsAs format steps (other * 10 ^ more) (10 ^ less)
      → IsNoLonger digits other
  pub nearest : (other more less : ℕ) → ReadsAs format steps (other * 10 ^ more) (10 ^ less)
      → IsNoLonger other digits
      → far_off steps (digits * 10 ^ up) (10 ^ down) * 10 ^ less
      ≤ far_off steps (other * 10 ^ more) (10 ^ less) * 10 ^ down
  pub greater : (other more less : ℕ) → ReadsAs format steps (other * 10 ^ more) (10 ^ less)
      → IsNoLonger other digits
      → far_off steps (digits * 10 ^ up) (10 ^ down) * 10 ^ less
      ≡ far_off steps (other * 10 ^ more) (10 ^ less) * 10 ^ down
      → other * 10 ^ more * 10 ^ down ≤ digits * 10 ^ up * 10 ^ less

-- steps of 2 ^ power * 2 ^ -1074 and quarters of units of 10 ^ up / 10 ^ down, by one measure
abbrev pub units_down : (power down : ℕ) → ℕ
units_down power down = 2 ^ power * 10 ^ down

abbrev pub units_up : (up : ℕ) → ℕ
units_up up = 4 * (10 ^ up * 2 ^ 1074)

-- the first 64 bits of 10 ^ (index - 292)
abbrev pub leading_bits : (index : ℕ) → ℕ
leading_bits index =
    let place = (index * 1741647 + 522724) / 524288 in
    10 ^ (index - 292) * 2 ^ (1034 - place) / (10 ^ (292 - index) * 2 ^ (place - 1034))

-- the greatest power of ten that is no wider than `half` and two quarters of a step
pub record IsScale (power half up down : ℕ) : Type 0 where
  pub finer : units_up up ≤ (half + 2) * units_down power down
  pub least : (half + 2) * units_down power down < 10 * units_up up
  pub up_small : up ≤ 300
  pub down_small : down ≤ 324
  pub plain : up ≡ 0 ⊎ down ≡ 0
  pub least_floats : power ≡ 0 ⊎ power ≡ 925 → (mantissa : ℕ) → mantissa < 10
      → 10 * units_up up < (4 * mantissa + 2) * units_down power down + 1
      → 19 * units_up up ≤ 8 * (mantissa * units_down power down)

-- a format's float by its mantissa: of all its digits, unless it is one of the least. The lower
-- neighbour is half as far, so that the bound is one quarter off, at a power of two
pub record HasMantissa (format : Format) (mantissa k power half : ℕ) : Type 0 where
  pub some : 0 < mantissa
  pub short : mantissa < 2 ^ prec format
  pub normal : 0 < k → 2 ^ (prec format - 1) ≤ mantissa
  pub fits : mantissa * 2 ^ k < 2 ^ (low format + suc (emax format))
  pub at : power ≡ k + (1074 - low format)
  pub edge : 0 < k → mantissa ≡ 2 ^ (prec format - 1) → half ≡ 1
  pub plain : half ≡ 2 ⊎ (half ≡ 1) × (0 < k) × (mantissa ≡ 2 ^ (prec format - 1))
