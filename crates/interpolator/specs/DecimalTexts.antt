-- Which texts spell a decimal, and why the others spell none.
use Rattle.std.specs.Prelude.{◌≡◌, ◌≢◌, ◌⊎◌, ℕ, ℤ, pos, neg_ℤ, ◌^◌, ◌<◌, Bool, true, false, List}
use Rattle.std.specs.Prelude.{[], ◌++◌, length, codes, FitsSigned}
use Rattle.std.specs.{Int.w128, Str.Parse.AllDigits, Str.Parse.IsNumeral, Str.Parse.digits_value}
use Rattle.interpolator_digits.specs.Decimals.{after_point}
use Rattle.interpolator_syntax.specs.declared.error.NumberError.{NumberError}
use Rattle.interpolator_syntax.specs.declared.error.NumberError.TheVariants.{Empty, InvalidDigit}
use Rattle.interpolator_syntax.specs.declared.error.NumberError.TheVariants.{PosOverflow}
use Rattle.interpolator_syntax.specs.declared.error.NumberError.TheVariants.{NegOverflow}
use Rattle.interpolator.specs.declared.decimal.Decimal.{Decimal}

-- the text is digits, one at least, and if there is a point digits after it, too
pub record AreParts (text before after : List ℕ) : Type 0 where
  pub parts : text ≡ before ++ after_point after
  pub before_digits : IsNumeral 10 before
  pub after_digits : AllDigits 10 after

-- the text is the unsigned one, after a `-` if the number is negative, and after a `+` or nothing
-- if it is not
abbrev pub HasSign : (text unsigned : List ℕ) (negative : Bool) → Type 0
HasSign text unsigned true = text ≡ codes "-" ++ unsigned
HasSign text unsigned false = (text ≡ unsigned) ⊎ (text ≡ codes "+" ++ unsigned)

-- a count, below zero if it is negative
abbrev pub signed : (negative : Bool) (count : ℕ) → ℤ
signed true count = neg_ℤ (pos count)
signed false count = pos count

-- the text spells units of 10 ^ -scale: a sign if there is one, digits, and if there is a point
-- digits after it, as many as the scale is; all the digits together are the number of units
pub record SpellsDecimal (text : List ℕ) (units : ℤ) (scale : ℕ) : Type 0 where
  pub negative : Bool
  pub unsigned : List ℕ
  pub before : List ℕ
  pub after : List ℕ
  pub sign : HasSign text unsigned negative
  pub parts : AreParts unsigned before after
  pub value : units ≡ signed negative (digits_value 10 (before ++ after))
  pub as_many : scale ≡ length after

-- the units have 128 bits, and the scale 32
abbrev pub IsInRange : (units : ℤ) (scale : ℕ) → Type 0
IsInRange units scale = FitsSigned w128 units × (scale < 2 ^ 32)

-- a decimal of these parts
abbrev pub decimal_of : (units : ℤ) (scale : ℕ) → Decimal
decimal_of units scale = record { units = units; scale = scale }

-- the text spells this decimal
abbrev pub Spells : (text : List ℕ) → Decimal → Type 0
Spells text decimal =
    SpellsDecimal text decimal.units decimal.scale × IsInRange decimal.units decimal.scale

-- the text spells a decimal whose units or scale are out of range
abbrev pub IsTooLong : (text : List ℕ) → Type 0
IsTooLong text =
    (units : ℤ) × (scale : ℕ) × SpellsDecimal text units scale × ¬ (IsInRange units scale)

-- the text begins with a `-`
abbrev pub IsNegative : (text : List ℕ) → Type 0
IsNegative text = (rest : List ℕ) × (text ≡ codes "-" ++ rest)

-- why a text is read as no decimal: it is empty, it spells none, or it spells one out of range
abbrev pub Explains : (text : List ℕ) → NumberError → Type 0
Explains text Empty = text ≡ []
Explains text InvalidDigit =
    (text ≢ []) × ((units : ℤ) (scale : ℕ) → ¬ (SpellsDecimal text units scale))
Explains text PosOverflow = IsTooLong text × ¬ (IsNegative text)
Explains text NegOverflow = IsTooLong text × IsNegative text
