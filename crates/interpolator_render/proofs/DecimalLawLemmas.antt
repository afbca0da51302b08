-- What the text of a decimal spells, and how far it is from the decimal.
use Rattle.std.proofs.Common.{◌≡◌, ℕ, ◌<◌, ◌≤◌, ◌-◌, ◌+◌, ◌*◌, ◌/◌, ◌%◌, ◌^◌, false, List, [], ◌∷◌}
use Rattle.std.proofs.Common.{◌++◌, length, refl, arith, pow-suc, nat_lt, None, Some, Option}
use Rattle.std.proofs.Common.{append-nil, Bool, zero, suc, map, replicate, sym, subst, ⊎_elim}
use Rattle.std.proofs.Common.{eq-zero-or-pos}
use Rattle.std.proofs.{lemmas.Bool.Decides.nat_tests, lemmas.Int.Digits.all_below_base_digits_of}
use Rattle.std.specs.Int.Digits.{AllBelowBase, digits_of}
use Rattle.std.specs.Str.Parse.{AllDigits, IsNumeral, digits_value, digits_value_after}
use Rattle.std.specs.{Char.digit_value, Fmt.digit_glyph}
use Rattle.interpolator_digits.specs.Decimals.{SpellsUnits, decimal_exponent_text, decimal_text}
use Rattle.interpolator_digits.specs.Decimals.{placed, units_at, units_text}
use Rattle.interpolator_digits.specs.{Digits.digit_text, Exponent.IsNearest, Exponent.exponent_text}
use Rattle.interpolator_render.proofs.CountLemmas.{value_of_zeros}
use Rattle.interpolator_render.proofs.LawLemmas.{digits_read, nearest_is_nearest}
use Rattle.interpolator_digits.proofs.DecimalLemmas.{length-placed, placed_none, placed_some}
use Rattle.interpolator_digits.proofs.DecimalLemmas.{remainder_fits}
use Rattle.interpolator_digits.proofs.DigitLemmas.{digit_text_map, digit_text_some, digit_text_zero}
use Rattle.interpolator_digits.proofs.ExponentLemmas.{pow_some}

-- ---- texts of digits

glyphs : (ds : List ℕ) → AllBelowBase 10 ds → AllDigits 10 (map (digit_glyph false) ds)
glyphs [] all = tt
glyphs (d ∷ ds) all = (
  let below : d < 10 = all.0 in
      let value : digit_value (digit_glyph false d) ≡ d = grind (arith, nat_tests) in omega arith,
  glyphs ds all.1,
)

pub digits_are : (n : ℕ) → AllDigits 10 (digit_text 10 false n)
digits_are n = ⊎_elim
    (λ none. subst (AllDigits 10) (sym (digit_text_zero 10 false n none)) (omega arith, tt))
    (λ some. subst (AllDigits 10) (sym (digit_text_map 10 n false some))
    (glyphs (digits_of 10 n) (all_below_base_digits_of 10 n (omega arith))))
    (eq-zero-or-pos n)

pub numeral : (n : ℕ) → IsNumeral 10 (digit_text 10 false n)
numeral n = (digit_text_some 10 n false (omega arith), digits_are n)

pub zeros_before : (k : ℕ) (ds : List ℕ) → AllDigits 10 ds → AllDigits 10 (replicate k 48 ++ ds)
zeros_before zero ds all = all
zeros_before (suc k) ds all = (omega arith, zeros_before k ds all)

placed_digits : (places part : ℕ) → AllDigits 10 (placed places part)
placed_digits places part = ⊎_elim
    (λ none. subst (AllDigits 10) (sym (placed_none places part none)) tt)
    (λ some. subst (AllDigits 10) (sym (placed_some places part some))
    (zeros_before _ (digit_text 10 false part) (digits_are part)))
    (eq-zero-or-pos places)

-- ---- digits after digits

value_after : (n : ℕ) (digits : List ℕ) →
    digits_value_after 10 n digits ≡ n * 10 ^ length digits + digits_value_after 10 0 digits
value_after n [] = omega arith
value_after n (digit ∷ digits) =
    let here = value_after (n * 10 + digit_value digit) digits in
    let alone = value_after (0 * 10 + digit_value digit) digits in
    rw (pow-suc 10 (length digits)) (omega (arith, here, alone))

value_over : (n : ℕ) (before after : List ℕ) → digits_value_after 10 n (before ++ after)
    ≡ digits_value_after 10 (digits_value_after 10 n before) after
value_over n [] after = refl
value_over n (digit ∷ before) after = value_over (n * 10 + digit_value digit) before after

pub value_both : (before after : List ℕ) → digits_value 10 (before ++ after)
    ≡ digits_value 10 before * 10 ^ length after + digits_value 10 after
value_both before after = grind (arith, value_over, value_after)

placed_value : (places part : ℕ) → part < 10 ^ places → digits_value 10 (placed places part) ≡ part
placed_value places part h = grind (arith, placed_none, placed_some, value_of_zeros, digits_read)

-- ---- decimals

units_spelled : (places count : ℕ) → SpellsUnits places count (units_text places count)
units_spelled places count =
    let part = count % 10 ^ places in
    record {
      before = digit_text 10 false (count / 10 ^ places);
      after = placed places part;
      parts = refl;
      before_digits = numeral (count / 10 ^ places);
      after_digits = placed_digits places part;
      as_many = length-placed places part (remainder_fits count places);
      value = grind (arith, value_both, length-placed, placed_value, digits_read, remainder_fits);
    }

units_same : (scale units : ℕ) → units_at scale scale units ≡ units
units_same scale units = grind (arith, nat_lt)

pub plain_spelled : (scale units : ℕ) → SpellsUnits scale units (decimal_text None scale units)
unfolding decimal_text
plain_spelled scale units =
    subst (λ u. SpellsUnits scale units (units_text scale u)) (sym (units_same scale units))
    (units_spelled scale units)

pub precise_spelled : (places scale units : ℕ) →
    SpellsUnits places (units_at places scale units) (decimal_text (Some places) scale units)
unfolding decimal_text
precise_spelled places scale units = grind (arith, units_spelled)

pub rounded_nearest : (places scale units : ℕ) → places < scale →
    IsNearest units (10 ^ (scale - places)) (units_at places scale units)
rounded_nearest places scale units h = grind (arith, nearest_is_nearest, pow_some)

pub longer_same : (places scale units : ℕ) → scale ≤ places →
    units_at places scale units ≡ units * 10 ^ (places - scale)
longer_same places scale units h = grind (arith, nat_lt)

pub ruleset decimal_laws = (plain_spelled, precise_spelled, rounded_nearest, longer_same)

-- ---- whole numbers

pub plain_whole : (n : ℕ) → decimal_text None 0 n ≡ digit_text 10 false n
unfolding decimal_text
plain_whole n = grind (arith, append-nil)

pub exponent_whole : (upper : Bool) (precision : Option ℕ) (n : ℕ) →
    decimal_exponent_text upper precision 0 n ≡ exponent_text upper precision n
unfolding decimal_exponent_text exponent_text
exponent_whole upper precision n = grind (arith, nat_lt)

pub ruleset whole_laws = (plain_whole, exponent_whole)
