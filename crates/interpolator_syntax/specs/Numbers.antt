-- The number that a run of digits and `-` spells, or why it spells none.
use Rattle.std.specs.Prelude.{ℕ, ℤ, pos, neg_ℤ, ◌+◌, ◌-◌, ◌*◌, ◌^◌, ◌==◌, nat_lt, if◌then◌else◌}
use Rattle.std.specs.Prelude.{List, [], ◌∷◌, Result, Ok, Err}
use Rattle.std.specs.Char.{is_ascii_digit}
use Rattle.interpolator_syntax.specs.Classes.{zero_digit, minus}
use Rattle.interpolator_syntax.specs.declared.error.NumberError.{NumberError}
use Rattle.interpolator_syntax.specs.declared.error.NumberError.TheVariants.{Empty, InvalidDigit}
use Rattle.interpolator_syntax.specs.declared.error.NumberError.TheVariants.{PosOverflow}
use Rattle.interpolator_syntax.specs.declared.error.NumberError.TheVariants.{NegOverflow}

-- the number with one more digit after those of n
abbrev pub with_digit : ℕ → ℕ → ℕ
with_digit n c = n * 10 + (c - zero_digit)

-- the number of n and the digits after it, if it is below `limit`: what decides is the first
-- character, from the left, that is no digit or whose digit takes the number to the limit
abbrev pub digits_after : (limit : ℕ) → (overflow : NumberError) → ℕ → List ℕ
    → Result ℕ NumberError
digits_after limit overflow n [] = Ok n
digits_after limit overflow n (c ∷ cs) =
    if is_ascii_digit c
    then (if nat_lt (with_digit n c) limit
    then digits_after limit overflow (with_digit n c) cs
    else Err overflow)
    else Err InvalidDigit

-- the number of such digits, of which there has to be at least one; else the fault is `none`
abbrev pub digits_or : (none : NumberError) → (limit : ℕ) → (overflow : NumberError) → List ℕ
    → Result ℕ NumberError
digits_or none limit overflow [] = Err none
digits_or none limit overflow (c ∷ cs) = digits_after limit overflow 0 (c ∷ cs)

-- a number without a sign, of 64 bits
abbrev pub natural : List ℕ → Result ℕ NumberError
natural [] = Err Empty
natural (c ∷ cs) = digits_after (2 ^ 64) PosOverflow 0 (c ∷ cs)

-- a number read from digits, under its sign
abbrev pub with_sign : (ℕ → ℤ) → Result ℕ NumberError → Result ℤ NumberError
with_sign sign (Ok n) = Ok (sign n)
with_sign sign (Err kind) = Err kind

-- the negation of a number
abbrev pub negation : ℕ → ℤ
negation n = neg_ℤ (pos n)

-- the number of the digits after a `-`, of which there has to be at least one
abbrev pub negative : List ℕ → Result ℤ NumberError
negative [] = Err InvalidDigit
negative (c ∷ cs) = with_sign negation (digits_after (2 ^ 63 + 1) NegOverflow 0 (c ∷ cs))

-- a number that may have a `-` in front, of 64 bits
abbrev pub integer : List ℕ → Result ℤ NumberError
integer [] = Err Empty
integer (c ∷ cs) =
    if c == minus then negative cs
    else with_sign pos (digits_after (2 ^ 63) PosOverflow 0 (c ∷ cs))
