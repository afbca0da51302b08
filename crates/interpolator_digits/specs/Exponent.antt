-- Numbers in exponent form: their digits, rounded half to even, their exponent and their text.
use Rattle.std.specs.Prelude.{ℕ, ◌+◌, ◌-◌, ◌*◌, ◌/◌, ◌%◌, ◌^◌, ◌≤◌, ◌≡◌, Bool, false, List, [], ◌∷◌}
use Rattle.std.specs.Prelude.{◌++◌, length, replicate, Option, Some, None, if◌then◌else◌, ◌==◌}
use Rattle.std.specs.Prelude.{◌&&◌, nat_lt}
use Rattle.interpolator_digits.specs.Characters.{zero_digit, point, lower_e, upper_e}
use Rattle.interpolator_digits.specs.Digits.{digit_text}

-- the digits of a number in exponent form, and the exponent of the first
pub record Scientific : Type 0 where
  pub digits : List ℕ
  pub exponent : ℕ

-- the exponent of the first digit: one less than the number has digits
abbrev pub exponent_of : ℕ → ℕ
exponent_of n = length (digit_text 10 false n) - 1

-- the whole number nearest to n / unit, the even one on a tie
abbrev pub nearest : ℕ → ℕ → ℕ
nearest n unit =
    let low = n / unit in
    let twice = 2 * (n % unit) in
    if nat_lt twice unit then low else (if nat_lt unit twice then low + 1 else low + low % 2)

-- digits without the zeros at their end
abbrev pub less_zeros : List ℕ → List ℕ
less_zeros [] = []
less_zeros (digit ∷ digits) =
    if (digit == zero_digit) && (length (less_zeros digits) == 0)
    then [] else digit ∷ less_zeros digits

-- digits without the zeros at their end, of which the first always stays
abbrev pub significant_digits : List ℕ → List ℕ
significant_digits [] = []
significant_digits (digit ∷ digits) = digit ∷ less_zeros digits

-- digits with zeros before them, so that there are at least `count`
abbrev pub with_zeros : ℕ → List ℕ → List ℕ
with_zeros count digits = replicate (count - length digits) zero_digit ++ digits

-- rounded to `places` digits after the first, if the number has more: a carry to ten raises the
-- exponent
abbrev pub rounding : ℕ → ℕ → ℕ → Scientific
rounding places n exponent =
    let mantissa = nearest n (10 ^ (exponent - places)) in
    if mantissa == 10 ^ (places + 1)
    then record { digits = digit_text 10 false (10 ^ places); exponent = exponent + 1 }
    else record { digits = digit_text 10 false mantissa; exponent = exponent }

-- without precision, all digits but the zeros at their end; with one, exactly that many digits
-- after the first
unfoldable pub scientific : Option ℕ → ℕ → Scientific
scientific None n = record { digits = significant_digits (digit_text 10 false n); exponent = exponent_of n }
scientific (Some places) n =
    if nat_lt places (exponent_of n) then rounding places n (exponent_of n)
    else record {
      digits = with_zeros (places + 1) (digit_text 10 false (n * 10 ^ (places - exponent_of n)));
      exponent = exponent_of n;
    }

-- a point after the first digit, if more follow
abbrev pub with_point : List ℕ → List ℕ
with_point [] = []
with_point (first ∷ []) = first ∷ []
with_point (first ∷ second ∷ more) = first ∷ point ∷ second ∷ more

-- what comes before `after` in `pointed (digits ++ after)`
abbrev pub leading : List ℕ → List ℕ → List ℕ
leading [] after = []
leading (first ∷ []) [] = first ∷ []
leading (first ∷ []) (next ∷ after) = first ∷ point ∷ []
leading (first ∷ second ∷ more) after = first ∷ point ∷ second ∷ more

-- the mark of an exponent
abbrev pub mark : Bool → ℕ
mark upper = if upper then upper_e else lower_e

-- the exponent after its mark
abbrev pub exponent_tail : Bool → ℕ → List ℕ
exponent_tail upper exponent = mark upper ∷ digit_text 10 false exponent

-- exponent form of a number's digits, zeros after them, and an exponent
abbrev pub shown_text : Bool → ℕ → ℕ → ℕ → List ℕ
shown_text upper digits zeros exponent =
    with_point (digit_text 10 false digits ++ replicate zeros zero_digit)
    ++ exponent_tail upper exponent

-- the text of a number in exponent form
unfoldable pub exponent_text : Bool → Option ℕ → ℕ → List ℕ
exponent_text upper precision n =
    with_point (scientific precision n).digits ++ exponent_tail upper (scientific precision n).exponent

-- how far two numbers lie apart
abbrev pub distance : ℕ → ℕ → ℕ
distance m n = (m - n) + (n - m)

-- a count of units nearest to n, the even one on a tie
pub record IsNearest (n unit count : ℕ) : Type 0 where
  pub near : 2 * distance n (count * unit) ≤ unit
  pub even : 2 * distance n (count * unit) ≡ unit → count % 2 ≡ 0
