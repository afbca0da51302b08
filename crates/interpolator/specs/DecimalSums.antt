-- What the sum and the difference of two decimals are, and which decimals are the same number.
use Rattle.std.specs.Prelude.{◌≡◌, ◌+ℤ◌, ◌-ℤ◌, ◌*ℤ◌, ◌-◌, ℕ, ℤ, pos, max, FitsSigned}
use Rattle.std.specs.Int.{int_pow, w128}
use Rattle.interpolator.specs.{DecimalTexts.decimal_of, declared.decimal.Decimal.Decimal}

-- the units of a number, counted at a scale that is not less
abbrev pub units_at : (scale : ℕ) → Decimal → ℤ
units_at scale number = number.units *ℤ int_pow (pos 10) (scale - number.scale)

-- the sum of two numbers, at the greater of their scales, however many bits it has
abbrev pub exact_sum : (left right : Decimal) → Decimal
exact_sum left right = let scale = max left.scale right.scale in
    decimal_of (units_at scale left +ℤ units_at scale right) scale

-- the first number less the second, at the greater of their scales, however many bits it has
abbrev pub exact_difference : (left right : Decimal) → Decimal
exact_difference left right = let scale = max left.scale right.scale in
    decimal_of (units_at scale left -ℤ units_at scale right) scale

-- they are the same number, whatever their scales
abbrev pub HaveSameValue : (left right : Decimal) → Type 0
HaveSameValue left right =
    left.units *ℤ int_pow (pos 10) right.scale ≡ right.units *ℤ int_pow (pos 10) left.scale

-- the second is the same number at this scale, in 128 bits
abbrev pub IsRescaled : (number : Decimal) (scale : ℕ) (rescaled : Decimal) → Type 0
IsRescaled number scale rescaled =
    (rescaled.scale ≡ scale) × FitsSigned w128 rescaled.units × HaveSameValue number rescaled
