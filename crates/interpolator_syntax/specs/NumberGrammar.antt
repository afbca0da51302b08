-- Which texts spell a number, and why the others spell none.
use Rattle.std.specs.Prelude.{◌≡◌, ◌≢◌, ◌⊎◌, ℕ, ℤ, pos, ◌+◌, ◌-◌, ◌*◌, ◌^◌, ◌<◌, ◌≤◌, IsTrue}
use Rattle.std.specs.Prelude.{IsFalse, All, List, [], ◌∷◌, ◌++◌, length}
use Rattle.std.specs.Char.{is_ascii_digit}
use Rattle.interpolator_syntax.specs.Classes.{zero_digit, minus}
use Rattle.interpolator_syntax.specs.declared.error.NumberError.TheVariants.{Empty, InvalidDigit}
use Rattle.interpolator_syntax.specs.declared.error.NumberError.TheVariants.{PosOverflow}
use Rattle.interpolator_syntax.specs.declared.error.NumberError.TheVariants.{NegOverflow}
use Rattle.interpolator_syntax.specs.{Numbers.negation, declared.error.NumberError.NumberError}

-- the number that digits spell, the first of them the most significant
abbrev pub decimal_value : List ℕ → ℕ
decimal_value [] = 0
decimal_value (c ∷ cs) = (c - zero_digit) * 10 ^ length cs + decimal_value cs

-- all are ASCII digits
abbrev pub AreDigits : List ℕ → Type 0
AreDigits cs = All (λ c. IsTrue (is_ascii_digit c)) cs

-- the text spells n, a number below the limit: it is digits, at least one, and n is their value
pub record IsNumber (limit : ℕ) (text : List ℕ) (n : ℕ) : Type 0 where
  pub not_empty : text ≢ []
  pub digits : AreDigits text
  pub value : n ≡ decimal_value text
  pub below : n < limit

-- why the character c ends the digits in `front`: it is no digit, or its digit takes their value to
-- the limit
abbrev pub IsStop : (limit : ℕ) (overflow : NumberError) (front : List ℕ) (c : ℕ)
    (kind : NumberError) → Type 0
IsStop limit overflow front c kind =
    (IsFalse (is_ascii_digit c) × (kind ≡ InvalidDigit))
    ⊎ (IsTrue (is_ascii_digit c) × (limit ≤ decimal_value (front ++ (c ∷ [])))
    × (kind ≡ overflow))

-- the text begins with digits of a value below the limit, and the character after them decides
pub record IsStopped (limit : ℕ) (overflow : NumberError) (text : List ℕ) (kind : NumberError)
    : Type 0 where
  pub front : List ℕ
  pub c : ℕ
  pub rest : List ℕ
  pub split : text ≡ front ++ (c ∷ rest)
  pub digits : AreDigits front
  pub below : decimal_value front < limit
  pub stop : IsStop limit overflow front c kind

-- the text spells no number below the limit, for this reason
abbrev pub IsNoNumber : (limit : ℕ) (overflow : NumberError) (text : List ℕ) (kind : NumberError)
    → Type 0
IsNoNumber limit overflow text kind =
    ((text ≡ []) × (kind ≡ Empty)) ⊎ IsStopped limit overflow text kind

-- the text is a `-`, as the sign, with something after it
pub record IsSigned (text after : List ℕ) : Type 0 where
  pub split : text ≡ minus ∷ after
  pub not_empty : after ≢ []

-- the text spells the integer z, of 64 bits: without a sign, or with one
abbrev pub IsInteger : (text : List ℕ) (z : ℤ) → Type 0
IsInteger text z =
    ((n : ℕ) × IsNumber (2 ^ 63) text n × (z ≡ pos n))
    ⊎ ((after : List ℕ) × (n : ℕ) × IsSigned text after × IsNumber (2 ^ 63 + 1) after n
    × (z ≡ negation n))

-- the text spells no integer of 64 bits, for this reason: if it has a sign, the text after the sign
-- decides
abbrev pub IsNoInteger : (text : List ℕ) (kind : NumberError) → Type 0
IsNoInteger text kind =
    (((after : List ℕ) → IsSigned text after → ⊥) × IsNoNumber (2 ^ 63) PosOverflow text kind)
    ⊎ ((after : List ℕ) × IsSigned text after
    × IsNoNumber (2 ^ 63 + 1) NegOverflow after kind)

-- which texts spell which numbers, and why the others spell none
pub record Spelling (A : Type 0) : Type 1 where
  pub spells : List ℕ → A → Type 0
  pub spells_none : List ℕ → NumberError → Type 0

-- numbers without a sign, of 64 bits
abbrev pub naturals : Spelling ℕ
naturals = record { spells = IsNumber (2 ^ 64); spells_none = IsNoNumber (2 ^ 64) PosOverflow }

-- integers, of 64 bits
abbrev pub integers : Spelling ℤ
integers = record { spells = IsInteger; spells_none = IsNoInteger }
