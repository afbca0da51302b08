-- The text of a decimal or a float in the form that a trait writes.
use Rattle.std.specs.Prelude.{ℕ, ◌+◌, ◌*◌, ◌^◌, max, Bool, false, true, List, [], Option, Some}
use Rattle.std.specs.Prelude.{None, if◌then◌else◌, nat_le, nat_lt, ◌||◌}
use Rattle.std.specs.Float.Ieee.{Float, Format, fin, nan}
use Rattle.interpolator_digits.specs.Decimals.{decimal_exponent_text, decimal_text}
use Rattle.interpolator_digits.specs.Exponent.{exponent_of}
use Rattle.interpolator_floats.specs.declared.shortest.Shortest.{Shortest}
use Rattle.interpolator_floats.specs.Floats.{float_scale, float_units, float_word, has_minus}
use Rattle.interpolator_floats.specs.ShortestDigits.{shortest, shortest_exponent_text}
use Rattle.interpolator_floats.specs.ShortestDigits.{shortest_text}
use Rattle.interpolator_render.specs.declared.view.Trait.TheVariants.{Debug, Display, LowerExp}
use Rattle.interpolator_render.specs.declared.view.Trait.TheVariants.{UpperExp}
use Rattle.interpolator_render.specs.{declared.view.Sign.Sign, declared.view.Trait.Trait}
use Rattle.interpolator_render.specs.Numbers.{sign_text}

-- a decimal without its sign, in the form that a trait writes, if it writes decimals
abbrev pub decimal_body : Trait → (precision : Option ℕ) → (scale units : ℕ) → Option (List ℕ)
decimal_body Display precision scale units = Some (decimal_text precision scale units)
decimal_body Debug precision scale units = Some (decimal_text precision scale units)
decimal_body LowerExp precision scale units =
    Some (decimal_exponent_text false precision scale units)
decimal_body UpperExp precision scale units =
    Some (decimal_exponent_text true precision scale units)
decimal_body _ precision scale units = None

-- ---- floats

-- the sign of a float: a NaN has none, nor a `+`
abbrev pub float_front : Float → Sign → List ℕ
float_front nan sign = []
float_front x sign = sign_text (has_minus x) sign

-- whether debug writes units of 10 ^ -scale in exponent form: from 10 ^ 16 on, and below 10 ^ -4
abbrev pub is_far : (scale units : ℕ) → Bool
is_far scale units =
    nat_le (scale + 16) (exponent_of units) || nat_lt (exponent_of units + 4) scale

-- shortest digits under debug: in exponent form if they are far from 1, else with a digit after the
-- point at least
abbrev pub debugged : Shortest → List ℕ
debugged shown =
    if is_far shown.down (shown.digits * 10 ^ shown.up) then shortest_exponent_text false shown
    else decimal_text (Some (max 1 shown.down)) shown.down (shown.digits * 10 ^ shown.up)

-- shortest digits in the form that a trait writes, if it writes floats
abbrev pub short_body : Trait → Shortest → Option (List ℕ)
short_body Display shown = Some (shortest_text shown)
short_body Debug shown = Some (debugged shown)
short_body LowerExp shown = Some (shortest_exponent_text false shown)
short_body UpperExp shown = Some (shortest_exponent_text true shown)
short_body _ shown = None

-- the word of a float that is not finite, under a trait that writes floats
abbrev pub worded : Trait → (word : List ℕ) → Option (List ℕ)
worded Display word = Some word
worded Debug word = Some word
worded LowerExp word = Some word
worded UpperExp word = Some word
worded _ word = None

-- a float without its sign, in the form that a trait writes: its shortest digits, or at a precision
-- those of the decimal that it is
abbrev pub float_body : Format → Trait → (precision : Option ℕ) → Float → Option (List ℕ)
float_body format t None (fin negative m e) = short_body t (shortest format (fin negative m e))
float_body format t (Some places) (fin negative m e) =
    decimal_body t (Some places) (float_scale (fin negative m e)) (float_units (fin negative m e))
float_body format t precision x = worded t (float_word x)
