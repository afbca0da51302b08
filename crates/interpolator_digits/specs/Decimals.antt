-- Decimals, which are units of a power of ten below 1: how they are rounded, and their text.
use Rattle.std.specs.Prelude.{◌≡◌, ◌+◌, ◌-◌, ◌*◌, ◌/◌, ◌%◌, ◌^◌, ℕ, Bool, false, List, [], ◌∷◌}
use Rattle.std.specs.Prelude.{◌++◌, length, replicate, Option, Some, None, unwrap_or, codes}
use Rattle.std.specs.Prelude.{if◌then◌else◌, ◌==◌, nat_lt}
use Rattle.std.specs.Str.Parse.{AllDigits, IsNumeral, digits_value}
use Rattle.interpolator_digits.specs.Exponent.{exponent_of, exponent_tail, mark, nearest}
use Rattle.interpolator_digits.specs.Exponent.{scientific, with_point, with_zeros}
use Rattle.interpolator_digits.specs.{Characters.point, Characters.zero_digit, Digits.digit_text}

-- a number below 10 ^ places by exactly `places` digits
abbrev pub placed : (places part : ℕ) → List ℕ
placed places part = if places == 0 then [] else with_zeros places (digit_text 10 false part)

-- the digits after a point, and before them the point if there are any
abbrev pub after_point : List ℕ → List ℕ
after_point [] = []
after_point (first ∷ more) = point ∷ first ∷ more

-- the text of a count of units of 10 ^ -places: the digits before the point, at least one, and
-- exactly `places` digits after it
abbrev pub units_text : (places count : ℕ) → List ℕ
units_text places count =
    digit_text 10 false (count / 10 ^ places) ++ after_point (placed places (count % 10 ^ places))

-- units of 10 ^ -scale as units of 10 ^ -places, which are the last digits that are shown: rounded
-- half to even if they are fewer
abbrev pub units_at : (places scale units : ℕ) → ℕ
units_at places scale units =
    if nat_lt places scale then nearest units (10 ^ (scale - places))
    else units * 10 ^ (places - scale)

-- the text of units of 10 ^ -scale, without a sign: with as many digits after the point as the
-- precision says, or as the scale says without one
unfoldable pub decimal_text : (precision : Option ℕ) → (scale units : ℕ) → List ℕ
decimal_text precision scale units =
    units_text (unwrap_or precision scale) (units_at (unwrap_or precision scale) scale units)

-- the exponent of the first digit after its mark: less the scale, and so perhaps below zero
abbrev pub scaled_tail : (upper : Bool) → (exponent scale : ℕ) → List ℕ
scaled_tail upper exponent scale =
    if nat_lt exponent scale
    then mark upper ∷ (codes "-" ++ digit_text 10 false (scale - exponent))
    else exponent_tail upper (exponent - scale)

-- zero has the exponent 0 at every scale
abbrev pub scale_of : (scale units : ℕ) → ℕ
scale_of scale units = if units == 0 then 0 else scale

-- exponent form of units of 10 ^ -scale: the digits are those of the units
unfoldable pub decimal_exponent_text : Bool → (precision : Option ℕ) → (scale units : ℕ) → List ℕ
decimal_exponent_text upper precision scale units =
    with_point (scientific precision units).digits
    ++ scaled_tail upper (scientific precision units).exponent (scale_of scale units)

-- a text spells a count of units of 10 ^ -places: digits before a point and `places` digits after
-- it, without the point if those are none; all of them together are the digits of the count
pub record SpellsUnits (places count : ℕ) (text : List ℕ) : Type 0 where
  pub before : List ℕ
  pub after : List ℕ
  pub parts : text ≡ before ++ after_point after
  pub before_digits : IsNumeral 10 before
  pub after_digits : AllDigits 10 after
  pub as_many : length after ≡ places
  pub value : digits_value 10 (before ++ after) ≡ count

-- a minus, if a number is below zero
abbrev pub minus_if : (below : Bool) → List ℕ
minus_if below = if below then codes "-" else []

-- a text in exponent form denotes units of 10 ^ -scale: one digit, others after a point if there
-- are any, and an exponent after its mark. Both sides of the equation are multiplied by powers of ten,
-- so that no exponent in it is below zero
pub record DenotesUnits (upper : Bool) (scale units : ℕ) (text : List ℕ) : Type 0 where
  pub first : ℕ
  pub after : List ℕ
  pub below : Bool
  pub exponent : List ℕ
  pub parts : text ≡ (first ∷ after_point after) ++ mark upper ∷ (minus_if below ++ exponent)
  pub digits : AllDigits 10 (first ∷ after)
  pub exponent_digits : IsNumeral 10 exponent
  pub value :
      digits_value 10 (first ∷ after)
      * 10 ^ (scale + (if below then 0 else digits_value 10 exponent))
      ≡ units * 10 ^ (length after + (if below then digits_value 10 exponent else 0))

-- units rounded half to even to as many digits after the first as the precision says, if it says
-- less than they have
abbrev pub rounded_units : (precision : Option ℕ) → (units : ℕ) → ℕ
rounded_units None units = units
rounded_units (Some places) units =
    let unit = 10 ^ (exponent_of units - places) in
    if nat_lt places (exponent_of units) then nearest units unit * unit else units

-- the text of a number before the point, and of one after it with zeros after that one
abbrev pub split_text : (whole part places zeros : ℕ) → List ℕ
split_text whole part places zeros =
    digit_text 10 false whole ++ after_point (placed places part ++ replicate zeros zero_digit)

-- exponent form of a number's digits, zeros after them, an exponent, and a scale
abbrev pub shown_scaled : Bool → (digits zeros exponent scale : ℕ) → List ℕ
shown_scaled upper digits zeros exponent scale =
    with_point (digit_text 10 false digits ++ replicate zeros zero_digit)
    ++ scaled_tail upper exponent scale
