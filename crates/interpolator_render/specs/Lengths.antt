-- How many characters the text of a view has at most.
use Rattle.std.specs.Prelude.{ℕ, List, zero, suc, ◌+◌, ◌*◌, ◌^◌, ◌<◌, ◌≤◌, ◌-◌, ⊤, max, min, false}
use Rattle.std.specs.Prelude.{length, unwrap_or, Option, None, Some, FitsSigned}
use Rattle.std.specs.{Int.w128, Float.Ieee.Float, Float.Ieee.Format}
use Rattle.interpolator_render.specs.declared.number_form.NumberForm.TheVariants.{Digits as InDigits}
use Rattle.interpolator_render.specs.declared.number_form.NumberForm.TheVariants.{Exponent as InExponent}
use Rattle.interpolator_render.specs.declared.number_form.Radix.TheVariants.{Decimal}
use Rattle.interpolator_render.specs.declared.number_form.Radix.TheVariants.{Binary as InBinary}
use Rattle.interpolator_render.specs.declared.number_form.Radix.TheVariants.{Octal as InOctal}
use Rattle.interpolator_render.specs.declared.number_form.Radix.TheVariants.{LowerHex as InLowerHex}
use Rattle.interpolator_render.specs.declared.number_form.Radix.TheVariants.{UpperHex as InUpperHex}
use Rattle.interpolator_render.specs.declared.view.Trait.TheVariants.{Debug, Display, LowerExp}
use Rattle.interpolator_render.specs.declared.view.Trait.TheVariants.{UpperExp}
use Rattle.interpolator_render.specs.Numbers.{distance_from_zero, front_text, number_form}
use Rattle.interpolator_render.specs.Texts.{ViewText, has_text}
use Rattle.interpolator_render.specs.Views.{Shown, signed_number, unsigned_number, some_text}
use Rattle.interpolator_render.specs.Views.{decimal_number, float_number, plain_text, integer_width}
use Rattle.interpolator_render.specs.declared.number_form.NumberForm.{NumberForm}
use Rattle.interpolator_render.specs.{declared.number_form.Radix.Radix, declared.view.Spec.Spec}
use Rattle.interpolator_render.specs.{declared.view.Trait.Trait, Forms.float_body}
use Rattle.interpolator_digits.specs.Decimals.{decimal_text}

-- the digits of a number below 2 ^ 128 in a base
abbrev pub most_digits : Radix → ℕ
most_digits Decimal = 39
most_digits InBinary = 128
most_digits InOctal = 43
most_digits InLowerHex = 32
most_digits InUpperHex = 32

-- sign and prefix: in decimal and exponent form a number may be negative
abbrev pub most_front : NumberForm → Spec → ℕ
most_front (InDigits Decimal) spec = 1
most_front (InDigits radix) spec = length (front_text (InDigits radix) spec false)
most_front (InExponent upper) spec = 1

-- the digits, in an exponent form with a point if there is more than one digit, the mark, and an
-- exponent of two digits
abbrev pub most_body : NumberForm → (precision : Option ℕ) → ℕ
most_body (InDigits radix) precision = most_digits radix
most_body (InExponent upper) None = 43
most_body (InExponent upper) (Some zero) = 4
most_body (InExponent upper) (Some (suc places)) = suc places + 5

-- a number in the form that a trait writes, if it writes numbers
abbrev pub most_number : Option NumberForm → Spec → ℕ
most_number None spec = 0
most_number (Some form) spec = most_front form spec + most_body form spec.precision

-- a decimal with that many digits after the point: its sign, 39 digits and the point come first
abbrev pub most_plain : (precision : Option ℕ) → ℕ
most_plain None = 0
most_plain (Some places) = places + 41

-- a decimal in exponent form: its sign, 39 digits or those of the precision, the point, the mark,
-- and an exponent of ten digits with its sign
abbrev pub most_scaled : (precision : Option ℕ) → ℕ
most_scaled None = 53
most_scaled (Some places) = places + 15

-- a decimal under a trait; without precision its plain text is one of the texts below
abbrev pub most_decimal : Trait → (precision : Option ℕ) → ℕ
most_decimal Display precision = most_plain precision
most_decimal Debug precision = most_plain precision
most_decimal LowerExp precision = most_scaled precision
most_decimal UpperExp precision = most_scaled precision
most_decimal _ precision = 0

-- a text of at most `most` characters: under debug each may take six, between two quotes
abbrev pub most_text : Trait → (most : ℕ) → ℕ
most_text Debug most = most * 6 + 2
most_text _ most = most

-- a text, if there is one, has fewer than `most` characters, and so at most as many with a sign
abbrev pub IsBodyWithin : (most : ℕ) → Option (List ℕ) → Type 0
IsBodyWithin most None = ⊤
IsBodyWithin most (Some body) = length body < most

-- under each trait and precision a float has no more characters than a decimal or a text may have
abbrev pub IsFloatWithin : (most : ℕ) → Format → Float → Type 0
IsFloatWithin most format x = (t : Trait) (precision : Option ℕ)
    → IsBodyWithin (max (most_decimal t precision) (most_text t most)) (float_body format t precision x)

-- a view whose text has at most `most` characters, with a sign if it is a decimal or a float; its
-- number is one that a view can have
abbrev pub IsShownWithin : (most : ℕ) → Shown → Type 0
IsShownWithin most (signed_number z bits) = FitsSigned (integer_width bits) z
IsShownWithin most (unsigned_number n) = n < 2 ^ 128
IsShownWithin most (decimal_number units scale) =
    FitsSigned w128 units × (scale < 2 ^ 32)
    × (length (decimal_text None scale (distance_from_zero units)) < most)
IsShownWithin most (float_number format x) = IsFloatWithin most format x
IsShownWithin most (some_text text) = length text ≤ most
IsShownWithin most (plain_text text) = length text ≤ most
IsShownWithin most _ = ⊤

-- what is written of a view within that bound: a number, a decimal or a text, or the width if it is
-- more
unfoldable pub most_written : Trait → Spec → (most : ℕ) → ℕ
most_written t spec most =
    max (unwrap_or spec.width 0)
    (max (most_number (number_form t spec.hex_debug) spec)
    (max (most_decimal t spec.precision) (most_text t most)))

-- a text has at most `most` characters; if there is none, nothing is written
abbrev pub HasAtMost : (most : ℕ) → ViewText → Type 0
HasAtMost most (has_text text) = length text ≤ most
HasAtMost most _ = ⊤

-- a count as a `usize`: the greatest means that many or more
abbrev pub usize_count : ℕ → ℕ
usize_count count = min count (2 ^ 64 - 1)
