-- A text spells one decimal at most.
use Rattle.std.proofs.Common.{◌≡◌, ◌≢◌, ◌↔◌, ℕ, ℤ, ◌<◌, Bool, false, List, [], ◌∷◌, ◌++◌, length}
use Rattle.std.proofs.Common.{get_or, Option, None, Some, Result, Ok, Bor, MatchOption, IfErr}
use Rattle.std.proofs.Common.{arith, append-nil, lit<, if◌then◌else◌}
use Rattle.std.proofs.lemmas.Str.Parse.{digit_from_value, digit_at}
use Rattle.std.proofs.lemmas.Str.Pattern.{IsSplitOnceResult, split_after, split_parts}
use Rattle.std.specs.Str.Parse.{AllDigits, IsNumeral, digits_value}
use Rattle.std.specs.{Bool.Decides, Bool.then_some, Char.digit_value, Int.IsInRange as IsBetween}
use Rattle.std.specs.{Option.SomeIff, Option.ok_or}
use Rattle.interpolator_syntax.specs.declared.error.NumberError.{NumberError}
use Rattle.interpolator_syntax.specs.declared.error.NumberError.TheVariants.{NegOverflow}
use Rattle.interpolator_syntax.specs.declared.error.NumberError.TheVariants.{PosOverflow}
use Rattle.interpolator_digits.specs.Decimals.{after_point}
use Rattle.interpolator.specs.DecimalTexts.{AreParts, Explains, HasSign, IsInRange, IsTooLong}
use Rattle.interpolator.specs.DecimalTexts.{Spells, SpellsDecimal, decimal_of, signed}
use Rattle.interpolator.specs.declared.decimal.Decimal.{Decimal}

-- ---- the point

-- no digit is a point
no_point : (ds : List ℕ) → AllDigits 10 ds → (i : ℕ) → i < length ds → get_or ds i 0 ≢ 46
no_point ds digits i within here = grind (arith, digit_at)

digits_end : (front back : List ℕ) → AllDigits 10 (front ++ (46 ∷ back)) → ⊥
digits_end [] back digits = omega (arith, digit_from_value 46 digits.0)
digits_end (c ∷ front) back digits = digits_end front back digits.1

-- a text without a point has no parts but itself
pub pointless : (text : List ℕ) → IsSplitOnceResult 46 text None → ¬ (IsNumeral 10 text) →
    (before after : List ℕ) → ¬ (AreParts text before after)
pointless text split none before [] parts = grind (arith, append-nil)
pointless text split none before (c ∷ after) parts =
    split_after 46 text before (c ∷ after) None split (lit< tt) parts.parts
    (no_point before parts.before_digits.1)

-- the parts at the first point are the only ones
pub point_parts : (text : List ℕ) (front back : Bor (List ℕ)) →
    IsSplitOnceResult 46 text (Some (front, back)) →
    (before after : List ℕ) → AreParts text before after →
    IsNumeral 10 front.now × IsNumeral 10 back.now
point_parts text front back split before [] parts =
    let cut = split_parts 46 text (Some (front, back)) split (lit< tt) in
    let all = rw append-nil at parts.parts in
    absurd (digits_end front.now back.now (rw (← cut.0, all) parts.before_digits.1))
point_parts text front back split before (c ∷ after) parts =
    let same = split_after 46 text before (c ∷ after) (Some (front, back)) split (lit< tt)
    parts.parts (no_point before parts.before_digits.1) in
    (rw same.0 parts.before_digits, rw same.1 (omega arith, parts.after_digits))

-- ---- one way to split

no_digit_after : (after : List ℕ) (d : ℕ) (ds : List ℕ) → after_point after ≡ d ∷ ds →
    digit_value d < 10 → ⊥
no_digit_after after d ds e digit = grind (arith, digit_from_value)

one_split : (before after other rest : List ℕ) → AllDigits 10 before → AllDigits 10 other →
    before ++ after_point after ≡ other ++ after_point rest → (before ≡ other) × (after ≡ rest)
one_split [] after [] rest digits others e = grind arith
one_split [] after (d ∷ ds) rest digits others e = grind (arith, no_digit_after)
one_split (c ∷ cs) after [] rest digits others e = grind (arith, no_digit_after)
one_split (c ∷ cs) after (d ∷ ds) rest digits others e =
    grind (arith, one_split cs after ds rest digits.1 others.1)

-- a text without a point has parts if it is digits
pub no_point_answer : (text empty : Bor (List ℕ)) (test : Bool)
    (answer : Option (Bor (List ℕ) × Bor (List ℕ))) → IsSplitOnceResult 46 text.now None →
    Decides test (IsNumeral 10 text.now) → answer ≡ then_some test (text, empty) →
    empty.now ≡ [] →
    MatchOption answer ((before after : List ℕ) → ¬ (AreParts text.now before after))
    (λ parts. AreParts text.now parts.0.now parts.1.now)
no_point_answer text empty test answer split decides e none =
    grind (arith, append-nil, pointless text.now split)

-- and one with a point if what is before it and after it is digits
pub point_answer : (text : List ℕ) (front back : Bor (List ℕ)) (test : Bool)
    (answer : Option (Bor (List ℕ) × Bor (List ℕ))) →
    IsSplitOnceResult 46 text (Some (front, back)) →
    Decides test (IsNumeral 10 front.now × IsNumeral 10 back.now) →
    answer ≡ then_some test (front, back) →
    MatchOption answer ((before after : List ℕ) → ¬ (AreParts text before after))
    (λ parts. AreParts text parts.0.now parts.1.now)
point_answer text front back test answer split decides e =
    let cut = split_parts 46 text (Some (front, back)) split (lit< tt) in
    grind (arith, cut, point_parts text front back split)

-- ---- the sign

-- what is under the sign begins with a digit
pub first_digit : (text before after : List ℕ) → AreParts text before after →
    (digit : ℕ) × (rest : List ℕ) × IsBetween 48 57 digit × (text ≡ digit ∷ rest)
first_digit text [] after parts = absurd (omega (arith, parts.before_digits.0))
first_digit text (c ∷ before) after parts =
    (c, _, digit_from_value c parts.before_digits.1.0, parts.parts)

-- without a sign, the text itself is unsigned
pub after_none : (text : List ℕ) → ((rest : List ℕ) → text ≢ 45 ∷ rest) →
    ((rest : List ℕ) → text ≢ 43 ∷ rest) → (negative : Bool) (digit : ℕ)
    (more : List ℕ) → IsBetween 48 57 digit → HasSign text (digit ∷ more) negative →
    (negative ≡ false) × (digit ∷ more ≡ text)
after_none text no_minus no_plus negative digit more between minus = grind arith

-- ---- the whole text

-- what is after the sign, if that is followed by a digit
abbrev pub IsSigned : (text : List ℕ) → Bool → (unsigned : List ℕ) → Type 0
IsSigned text negative unsigned = (other : Bool) (digit : ℕ) (rest : List ℕ) →
    IsBetween 48 57 digit → HasSign text (digit ∷ rest) other →
    (other ≡ negative) × (digit ∷ rest ≡ unsigned)

pub same_sign : (text : List ℕ) (negative : Bool) (unsigned : List ℕ) →
    IsSigned text negative unsigned → (units : ℤ) (scale : ℕ)
    (spelled : SpellsDecimal text units scale) →
    (spelled.negative ≡ negative) × (spelled.unsigned ≡ unsigned)
same_sign text negative unsigned signs units scale spelled =
    let (digit, rest, between, first) = first_digit _ _ _ spelled.parts in
    grind (arith, signs spelled.negative digit rest between)

-- nothing is spelled by what has no parts
pub spells_none : (text : List ℕ) (negative : Bool) (unsigned : List ℕ) →
    IsSigned text negative unsigned →
    ((before after : List ℕ) → ¬ (AreParts unsigned before after)) →
    (units : ℤ) (scale : ℕ) → ¬ (SpellsDecimal text units scale)
spells_none text negative unsigned signs none units scale spelled =
    grind (arith, same_sign text negative unsigned signs units scale spelled)

-- what is spelled by parts under a sign is the only decimal
module _ (text : List ℕ) (negative : Bool) (unsigned before after : List ℕ)
    (sign : HasSign text unsigned negative) (signs : IsSigned text negative unsigned)
    (parts : AreParts unsigned before after) where
  pub spelled :
      SpellsDecimal text (signed negative (digits_value 10 (before ++ after))) (length after)
  spelled = grind arith

  pub only_spelled : (units : ℤ) (scale : ℕ) → SpellsDecimal text units scale →
      (units ≡ signed negative (digits_value 10 (before ++ after))) × (scale ≡ length after)
  only_spelled units scale other =
      grind (arith, same_sign text negative unsigned signs units scale other, one_split)

-- the fault of a text that is out of range
explained : (text : List ℕ) (negative : Bool) (unsigned before after : List ℕ) →
    HasSign text unsigned negative → AreParts unsigned before after → IsTooLong text →
    Explains text (if negative then NegOverflow else PosOverflow)
explained text negative unsigned before after sign parts long =
    let (digit, rest, between, first) = first_digit unsigned before after parts in
    grind (arith, between, first)

-- what is read: the only decimal that is spelled, if it is in range
pub read_answer : (text : List ℕ) (units : ℤ) (scale : ℕ) (made : Option Decimal)
    (overflow : NumberError) (answer : Result Decimal NumberError) →
    SpellsDecimal text units scale →
    ((z : ℤ) (n : ℕ) → SpellsDecimal text z n → (z ≡ units) × (n ≡ scale)) →
    SomeIff made (IsInRange units scale) (decimal_of units scale) →
    answer ≡ ok_or made overflow →
    (decimal : Decimal) → Spells text decimal ↔ (answer ≡ Ok decimal)
read_answer text units scale made overflow answer here only over given decimal =
    grind (arith, only decimal.units decimal.scale)

pub read_fault : (text : List ℕ) (negative : Bool) (units : ℤ) (scale : ℕ)
    (unsigned before after : List ℕ) (made : Option Decimal) (overflow : NumberError)
    (answer : Result Decimal NumberError) →
    HasSign text unsigned negative → AreParts unsigned before after →
    SpellsDecimal text units scale →
    SomeIff made (IsInRange units scale) (decimal_of units scale) →
    overflow ≡ (if negative then NegOverflow else PosOverflow) → answer ≡ ok_or made overflow →
    IfErr answer (λ error. Explains text error)
read_fault text negative units scale unsigned before after made overflow answer sign parts here over why given =
    grind (arith, explained)
