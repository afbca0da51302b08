-- What a view shows: the view without its borrows.
use Rattle.std.specs.Prelude.{◌≡◌, ℕ, ℤ, pos, negsuc, ◌-◌, ◌^◌, nat_lt, Bool, if◌then◌else◌, List}
use Rattle.std.specs.Prelude.{FitsSigned, IsTrue}
use Rattle.std.specs.Float.{Ieee.Float as Ieee, Ieee.Format, Ieee.binary32, Ieee.binary64, Ieee.eq}
use Rattle.std.specs.{Int.Width, Int.w8, Int.w16, Int.w32, Int.w64, Int.w128, Str.chars}
use Rattle.interpolator_render.specs.declared.view.Bits.TheVariants.{B8, B16, B32, B64, B128}
use Rattle.interpolator_render.specs.declared.view.View.TheVariants.{Signed, Unsigned, Truth}
use Rattle.interpolator_render.specs.declared.view.View.TheVariants.{Decimal, Character, Text}
use Rattle.interpolator_render.specs.declared.view.View.TheVariants.{Plain, Float, Float32}
use Rattle.interpolator_render.specs.declared.view.View.TheVariants.{NotImplemented, Failed}
use Rattle.interpolator_render.specs.{declared.view.Bits.Bits, declared.view.View.View}

-- the width as std's clauses name it
abbrev pub integer_width : Bits → Width
integer_width B8 = w8
integer_width B16 = w16
integer_width B32 = w32
integer_width B64 = w64
integer_width B128 = w128

-- the width in bits
abbrev pub bit_count : Bits → ℕ
bit_count B8 = 8
bit_count B16 = 16
bit_count B32 = 32
bit_count B64 = 64
bit_count B128 = 128

-- a view without its borrows, so that two views which show the same are equal
pub data Shown : Type 0 where
  signed_number : ℤ → Bits → Shown
  unsigned_number : ℕ → Shown
  truth_value : Bool → Shown
  decimal_number : (units : ℤ) → (scale : ℕ) → Shown
  float_number : Format → Ieee → Shown
  one_character : ℕ → Shown
  some_text : List ℕ → Shown
  plain_text : List ℕ → Shown
  nothing_implemented : Shown
  failure : Shown

-- what a view shows, a text by its characters
abbrev pub shown_by : View → Shown
shown_by (Signed number bits) = signed_number number bits
shown_by (Unsigned number) = unsigned_number number
shown_by (Truth truth) = truth_value truth
shown_by (Decimal units scale) = decimal_number units scale
shown_by (Float number) = float_number binary64 number
shown_by (Float32 number) = float_number binary32 number
shown_by (Character c) = one_character c
shown_by (Text text) = some_text (chars text.now)
shown_by (Plain text) = plain_text (chars text.now)
shown_by NotImplemented = nothing_implemented
shown_by Failed = failure

-- what a view shows, a text by its bytes
abbrev pub shown_in_bytes : View → Shown
shown_in_bytes (Text text) = some_text text.now
shown_in_bytes (Plain text) = plain_text text.now
shown_in_bytes view = shown_by view

-- two views compare as equal: they show the same, but floats are compared as numbers, so that a NaN
-- is not equal to itself, and 0 is to -0
abbrev pub AreEqual : Shown → Shown → Type 0
AreEqual (float_number format x) (float_number other y) = (format ≡ other) × IsTrue (eq x y)
AreEqual one other = one ≡ other

-- a signed number lies in the two's complement range of its width, from -2 ^ (w - 1) up to 2 ^ (w -
-- 1) - 1
abbrev pub IsInRange : Shown → Type 0
IsInRange (signed_number number bits) = FitsSigned (integer_width bits) number
IsInRange _ = Unit {0}

-- whether a number lies in that range
abbrev pub fits_signed : ℤ → Bits → Bool
fits_signed (pos number) bits = nat_lt number (2 ^ (bit_count bits - 1))
fits_signed (negsuc below) bits = nat_lt below (2 ^ (bit_count bits - 1))

-- what a view shows as a value: itself, or a failure for a signed number outside its width
abbrev pub shown_as_value : View → Shown
shown_as_value (Signed number bits) =
    if fits_signed number bits then signed_number number bits else failure
shown_as_value (Unsigned number) = unsigned_number number
shown_as_value (Truth truth) = truth_value truth
shown_as_value (Decimal units scale) = decimal_number units scale
shown_as_value (Float number) = float_number binary64 number
shown_as_value (Float32 number) = float_number binary32 number
shown_as_value (Character c) = one_character c
shown_as_value (Text text) = some_text (chars text.now)
shown_as_value (Plain text) = plain_text (chars text.now)
shown_as_value NotImplemented = nothing_implemented
shown_as_value Failed = failure
