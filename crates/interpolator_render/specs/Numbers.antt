-- Whole numbers: how a trait writes them, their sign, prefix and text.
use Rattle.std.specs.Prelude.{ℕ, ℤ, pos, negsuc, ◌+◌, ◌-◌, ◌%◌, ◌^◌, ◌≤◌, Bool, true, false, List}
use Rattle.std.specs.Prelude.{[], ◌++◌, length, Option, Some, None, if◌then◌else◌, codes}
use Rattle.std.specs.Str.{IsAscii}
use Rattle.interpolator_render.specs.declared.number_form.Radix.TheVariants.{Decimal}
use Rattle.interpolator_render.specs.declared.number_form.Radix.TheVariants.{Binary as InBinary}
use Rattle.interpolator_render.specs.declared.number_form.Radix.TheVariants.{Octal as InOctal}
use Rattle.interpolator_render.specs.declared.number_form.Radix.TheVariants.{LowerHex as InLowerHex}
use Rattle.interpolator_render.specs.declared.number_form.Radix.TheVariants.{UpperHex as InUpperHex}
use Rattle.interpolator_render.specs.declared.number_form.NumberForm.TheVariants.{Digits as InDigits}
use Rattle.interpolator_render.specs.declared.number_form.NumberForm.TheVariants.{Exponent as InExponent}
use Rattle.interpolator_render.specs.declared.view.HexDebug.TheVariants.{No, Lower, Upper}
use Rattle.interpolator_render.specs.declared.view.Sign.TheVariants.{Plus, Minus, Unset}
use Rattle.interpolator_render.specs.declared.view.Trait.TheVariants.{Binary, Debug, Display}
use Rattle.interpolator_render.specs.declared.view.Trait.TheVariants.{LowerExp, LowerHex, Octal}
use Rattle.interpolator_render.specs.declared.view.Trait.TheVariants.{UpperExp, UpperHex, Iter}
use Rattle.interpolator_render.specs.declared.number_form.Radix.{Radix}
use Rattle.interpolator_render.specs.declared.{number_form.NumberForm.NumberForm, view.Bits.Bits}
use Rattle.interpolator_render.specs.declared.{view.HexDebug.HexDebug, view.Sign.Sign}
use Rattle.interpolator_render.specs.declared.{view.Spec.Spec, view.Trait.Trait}
use Rattle.interpolator_render.specs.{Padding.padded_number, Views.bit_count}
use Rattle.interpolator_digits.specs.{Digits.digit_text, Exponent.exponent_text}

-- ---- how a number is written

-- the base of a radix
abbrev pub base_of : Radix → ℕ
base_of Decimal = 10
base_of InBinary = 2
base_of InOctal = 8
base_of InLowerHex = 16
base_of InUpperHex = 16

-- whether its digits past nine are capital letters
abbrev pub is_upper : Radix → Bool
is_upper InUpperHex = true
is_upper _ = false

-- the prefix that `#` puts before the digits
abbrev pub prefix_of : Radix → List ℕ
prefix_of Decimal = []
prefix_of InBinary = codes "0b"
prefix_of InOctal = codes "0o"
prefix_of InLowerHex = codes "0x"
prefix_of InUpperHex = codes "0x"

-- debug is as display, or hexadecimal if the spec says so
abbrev pub debug_radix : HexDebug → Radix
debug_radix No = Decimal
debug_radix Lower = InLowerHex
debug_radix Upper = InUpperHex

-- how a trait writes whole numbers, if it does
abbrev pub number_form : Trait → HexDebug → Option NumberForm
number_form Display hex_debug = Some (InDigits Decimal)
number_form Debug hex_debug = Some (InDigits (debug_radix hex_debug))
number_form Binary hex_debug = Some (InDigits InBinary)
number_form Octal hex_debug = Some (InDigits InOctal)
number_form LowerHex hex_debug = Some (InDigits InLowerHex)
number_form UpperHex hex_debug = Some (InDigits InUpperHex)
number_form LowerExp hex_debug = Some (InExponent false)
number_form UpperExp hex_debug = Some (InExponent true)
number_form Iter hex_debug = None

-- ---- its sign

-- `-` before a negative number, `+` before any other if the spec says so
abbrev pub sign_text : Bool → Sign → List ℕ
sign_text true sign = codes "-"
sign_text false Plus = codes "+"
sign_text false Minus = []
sign_text false Unset = []

-- below zero
abbrev pub is_negative : ℤ → Bool
is_negative (pos n) = false
is_negative (negsuc n) = true

-- the number without its sign
abbrev pub distance_from_zero : ℤ → ℕ
distance_from_zero (pos n) = n
distance_from_zero (negsuc n) = n + 1

-- the remainder of a number modulo m, from 0 up to m - 1
abbrev pub remainder : ℤ → ℕ → ℕ
remainder (pos n) m = n % m
remainder (negsuc n) m = m - 1 - n % m

-- two's complement at a width
abbrev pub twos_complement : ℤ → Bits → ℕ
twos_complement z bits = remainder z (2 ^ bit_count bits)

-- whether a signed number is written as negative: in decimal and exponent form alone
abbrev pub has_minus : NumberForm → ℤ → Bool
has_minus (InDigits Decimal) z = is_negative z
has_minus (InDigits _) z = false
has_minus (InExponent upper) z = is_negative z

-- the number that a signed number's digits show: two's complement, but in decimal and exponent form
-- the number without its sign
abbrev pub magnitude : NumberForm → ℤ → Bits → ℕ
magnitude (InDigits Decimal) z bits = distance_from_zero z
magnitude (InDigits _) z bits = twos_complement z bits
magnitude (InExponent upper) z bits = distance_from_zero z

-- ---- its text

-- sign and prefix
abbrev pub front_text : NumberForm → Spec → Bool → List ℕ
front_text (InDigits radix) spec negative =
    sign_text negative spec.sign ++ (if spec.alternate then prefix_of radix else [])
front_text (InExponent upper) spec negative = sign_text negative spec.sign

-- the digits, in an exponent form with point and exponent
abbrev pub body_text : NumberForm → Spec → ℕ → List ℕ
body_text (InDigits radix) spec n = digit_text (base_of radix) (is_upper radix) n
body_text (InExponent upper) spec n = exponent_text upper spec.precision n

-- the text of a number: front and body, padded
abbrev pub number_text : NumberForm → Spec → Bool → ℕ → List ℕ
number_text form spec negative n =
    padded_number spec (front_text form spec negative) (body_text form spec n)

-- a short ASCII text, whose bytes are its characters
abbrev pub IsShortAscii : List ℕ → Type 0
IsShortAscii bytes = IsAscii bytes × (length bytes ≤ 128)
