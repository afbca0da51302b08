-- What the text of a decimal in exponent form denotes.
use Rattle.std.proofs.Common.{◌≡◌, ℕ, ◌<◌, ◌≤◌, ◌-◌, ◌+◌, ◌*◌, ◌^◌, false, true, List, [], ◌∷◌}
use Rattle.std.proofs.Common.{◌++◌, length, refl, arith, nat_lt, None, Some, Option, Bool, zero}
use Rattle.std.proofs.Common.{suc, replicate, sym, subst, ap, pow-add, length-append, inl, inr}
use Rattle.std.proofs.Common.{if◌then◌else◌}
use Rattle.std.proofs.{lemmas.Bool.cases_eq, lemmas.Bool.cases_lt, lemmas.List.length-replicate}
use Rattle.std.specs.Str.Parse.{AllDigits, IsNumeral, digits_value}
use Rattle.interpolator_digits.specs.Decimals.{DenotesUnits, after_point, decimal_exponent_text}
use Rattle.interpolator_digits.specs.Decimals.{rounded_units, scale_of, scaled_tail}
use Rattle.interpolator_digits.specs.Digits.{digit_text}
use Rattle.interpolator_digits.specs.Exponent.{exponent_of, nearest, rounding, scientific}
use Rattle.interpolator_digits.specs.Exponent.{significant_digits, with_point, with_zeros}
use Rattle.interpolator_render.proofs.CountLemmas.{scientific_count, scientific_rounded}
use Rattle.interpolator_render.proofs.CountLemmas.{scientific_whole}
use Rattle.interpolator_render.proofs.DecimalLawLemmas.{digits_are, numeral, value_both}
use Rattle.interpolator_render.proofs.DecimalLawLemmas.{zeros_before}
use Rattle.interpolator_render.proofs.LawLemmas.{digits_read, trimmed_tail}
use Rattle.interpolator_digits.proofs.DigitLemmas.{digit_text_some}
use Rattle.interpolator_digits.proofs.ExponentLemmas.{pow_some, scientific_long, scientific_plain}
use Rattle.interpolator_digits.proofs.ExponentLemmas.{scientific_short, exponent_of_zero}

-- ---- powers of ten

times : (d u a b c : ℕ) → d * a ≡ u * b → d * (a * c) ≡ u * (b * c)
times d u a b c e = let more = ap (λ x. x * c) e in grind (arith, more)

low_power : (d u k e s : ℕ) → e < s → d * 10 ^ e ≡ u * 10 ^ k →
    d * 10 ^ (s + 0) ≡ u * 10 ^ (k + (s - e))
low_power d u k e s h same =
    let whole : s + 0 ≡ e + (s - e) = omega arith in
    let more = times d u (10 ^ e) (10 ^ k) (10 ^ (s - e)) same in
    grind (arith, whole, pow-add 10 e (s - e), pow-add 10 k (s - e), more)

high_power : (d u k e s : ℕ) → s ≤ e → d * 10 ^ e ≡ u * 10 ^ k →
    d * 10 ^ (s + (e - s)) ≡ u * 10 ^ (k + 0)
high_power d u k e s h same =
    let whole : s + (e - s) ≡ e = omega arith in grind (arith, whole, same)

trimmed_power : (d n c size total : ℕ) → d * 10 ^ c ≡ n → size + c ≡ total → 0 < size →
    d * 10 ^ (total - 1) ≡ n * 10 ^ (size - 1)
trimmed_power d n c size total whole long some =
    let sum : total - 1 ≡ c + (size - 1) = omega arith in
    let more = ap (λ x. x * 10 ^ (size - 1)) whole in
    grind (arith, sum, pow-add 10 c (size - 1), more)

rounded_power : (d u places e : ℕ) → places ≤ e → d * 10 ^ (e - places) ≡ u →
    d * 10 ^ e ≡ u * 10 ^ places
rounded_power d u places e h same =
    let sum : e ≡ (e - places) + places = omega arith in
    let more = ap (λ x. x * 10 ^ places) same in
    grind (arith, ap (λ x. d * 10 ^ x) sum, pow-add 10 (e - places) places, more)

short_power : (n places e : ℕ) → e ≤ places → n * 10 ^ (places - e) * 10 ^ e ≡ n * 10 ^ places
short_power n places e h =
    let sum : places - e + e ≡ places = omega arith in
    grind (arith, ap (λ x. n * 10 ^ x) sum, pow-add 10 (places - e) e)

-- ---- the text

pointed : (first : ℕ) (after : List ℕ) → with_point (first ∷ after) ≡ first ∷ after_point after
pointed first [] = refl
pointed first (second ∷ after) = refl

-- an exponent below the scale is written with a minus
low_tail : (upper : Bool) (scale units exponent first : ℕ) (after : List ℕ) →
    AllDigits 10 (first ∷ after) → exponent < scale →
    digits_value 10 (first ∷ after) * 10 ^ exponent ≡ units * 10 ^ length after →
    DenotesUnits upper scale units
    (with_point (first ∷ after) ++ scaled_tail upper exponent scale)
low_tail upper scale units exponent first after all h e =
    let read = digits_read 10 (scale - exponent) false (omega arith) (omega arith) in
    let d = digits_value 10 (first ∷ after) in
    record {
      first = first;
      after = after;
      below = true;
      exponent = digit_text 10 false (scale - exponent);
      parts = grind (arith, pointed, nat_lt);
      digits = all;
      exponent_digits = numeral (scale - exponent);
      value = rw read (low_power d units (length after) exponent scale h e);
    }

-- any other without
high_tail : (upper : Bool) (scale units exponent first : ℕ) (after : List ℕ) →
    AllDigits 10 (first ∷ after) → scale ≤ exponent →
    digits_value 10 (first ∷ after) * 10 ^ exponent ≡ units * 10 ^ length after →
    DenotesUnits upper scale units
    (with_point (first ∷ after) ++ scaled_tail upper exponent scale)
high_tail upper scale units exponent first after all h e =
    let read = digits_read 10 (exponent - scale) false (omega arith) (omega arith) in
    let d = digits_value 10 (first ∷ after) in
    record {
      first = first;
      after = after;
      below = false;
      exponent = digit_text 10 false (exponent - scale);
      parts = grind (arith, pointed, nat_lt);
      digits = all;
      exponent_digits = numeral (exponent - scale);
      value = rw read (high_power d units (length after) exponent scale h e);
    }

either_tail : (upper : Bool) (scale units exponent first : ℕ) (after : List ℕ) →
    AllDigits 10 (first ∷ after) →
    digits_value 10 (first ∷ after) * 10 ^ exponent ≡ units * 10 ^ length after →
    DenotesUnits upper scale units
    (with_point (first ∷ after) ++ scaled_tail upper exponent scale)
either_tail upper scale units exponent first after all e = elim (cases_lt exponent scale) [
  | inl low ↦ low_tail upper scale units exponent first after all low e
  | inr high ↦ high_tail upper scale units exponent first after all high e
]

denoted : (upper : Bool) (scale units exponent : ℕ) (digits : List ℕ) → IsNumeral 10 digits →
    digits_value 10 digits * 10 ^ exponent ≡ units * 10 ^ (length digits - 1) →
    DenotesUnits upper scale units (with_point digits ++ scaled_tail upper exponent scale)
denoted upper scale units exponent [] some e = absurd (omega (arith, some.0))
denoted upper scale units exponent (first ∷ after) some e =
    either_tail upper scale units exponent first after some.1
    (subst (λ k. digits_value 10 (first ∷ after) * 10 ^ exponent ≡ units * 10 ^ k) (omega arith) e)

-- zero has its value at every scale
zero_scaled : (upper : Bool) (scale : ℕ) (text : List ℕ) → DenotesUnits upper 0 0 text →
    DenotesUnits upper scale 0 text
zero_scaled upper scale text d =
    let some = pow_some (0 + (if d.below then 0 else digits_value 10 d.exponent)) in
    let none : digits_value 10 (d.first ∷ d.after) ≡ 0 = grind (arith, d.value, some) in
    record {
      first = d.first;
      after = d.after;
      below = d.below;
      exponent = d.exponent;
      parts = d.parts;
      digits = d.digits;
      exponent_digits = d.exponent_digits;
      value = grind (arith, none);
    }

-- ---- the digits

front_digits : (front back : List ℕ) → AllDigits 10 (front ++ back) → AllDigits 10 front
front_digits [] back all = tt
front_digits (digit ∷ front) back all = (all.0, front_digits front back all.1)

kept_some : (digits : List ℕ) → 0 < length digits → 0 < length (significant_digits digits)
kept_some [] some = omega (arith, some)
kept_some (digit ∷ digits) some = omega arith

zeros_only : (count : ℕ) → digits_value 10 (replicate count 48) ≡ 0
zeros_only zero = refl
zeros_only (suc count) = zeros_only count

trimmed_numeral : (n : ℕ) → IsNumeral 10 (significant_digits (digit_text 10 false n))
trimmed_numeral n =
    let (count, e) = trimmed_tail (digit_text 10 false n) in (
      kept_some (digit_text 10 false n) (digit_text_some 10 n false (omega arith)),
      front_digits _ (replicate count 48) (subst (AllDigits 10) e (digits_are n)),
    )

trimmed_value : (n : ℕ) →
    digits_value 10 (significant_digits (digit_text 10 false n)) * 10 ^ exponent_of n
    ≡ n * 10 ^ (length (significant_digits (digit_text 10 false n)) - 1)
trimmed_value n =
    let digits = significant_digits (digit_text 10 false n) in
    let (count, e) = trimmed_tail (digit_text 10 false n) in
    let some = (trimmed_numeral n).0 in
    let zeros = zeros_only count in
    let both = value_both digits (replicate count 48) in
    let whole : digits_value 10 digits * 10 ^ count ≡ n =
    grind (arith, e, both, zeros, length-replicate, digits_read) in
    let long : length digits + count ≡ length (digit_text 10 false n) = grind
    (arith, e, length-append, length-replicate) in
    trimmed_power (digits_value 10 digits) n count (length digits) (length (digit_text 10 false n))
    whole long some

placed_numeral : (count n : ℕ) → IsNumeral 10 (with_zeros count (digit_text 10 false n))
placed_numeral count n =
    let some = digit_text_some 10 n false (omega arith) in (
      grind (arith, length-append, some),
      zeros_before _ (digit_text 10 false n) (digits_are n),
    )

rounding_numeral : (places n exponent : ℕ) → IsNumeral 10 (rounding places n exponent).digits
rounding_numeral places n exponent =
    elim (cases_eq (nearest n (10 ^ (exponent - places))) (10 ^ (places + 1))) [
      | inl carried ↦ grind (arith, carried, numeral (10 ^ places))
      | inr other ↦ grind (arith, other, numeral (nearest n (10 ^ (exponent - places))))
    ]

numeral_digits : (precision : Option ℕ) (n : ℕ) → IsNumeral 10 (scientific precision n).digits
numeral_digits None n =
    subst (λ s. IsNumeral 10 s.digits) (sym (scientific_plain n)) (trimmed_numeral n)
numeral_digits (Some places) n = elim (cases_lt places (exponent_of n)) [
  | inl long ↦ subst (λ s. IsNumeral 10 s.digits) (sym (scientific_long places n long))
      (rounding_numeral places n (exponent_of n))
  | inr short ↦ subst (λ s. IsNumeral 10 s.digits) (sym (scientific_short places n short))
      (placed_numeral (places + 1) (n * 10 ^ (places - exponent_of n)))
]

digits_after : (places n : ℕ) → length (scientific (Some places) n).digits - 1 ≡ places
digits_after places n = omega (arith, scientific_count places n)

rounded_long : (places n : ℕ) → places < exponent_of n → rounded_units (Some places) n
    ≡ nearest n (10 ^ (exponent_of n - places)) * 10 ^ (exponent_of n - places)
rounded_long places n h = grind (arith, nat_lt)

rounded_short : (places n : ℕ) → exponent_of n ≤ places → rounded_units (Some places) n ≡ n
rounded_short places n h = grind (arith, nat_lt)

value_digits : (precision : Option ℕ) (n : ℕ) →
    digits_value 10 (scientific precision n).digits * 10 ^ (scientific precision n).exponent
    ≡ rounded_units precision n * 10 ^ (length (scientific precision n).digits - 1)
value_digits None n = grind (arith, scientific_plain n, trimmed_value n)
value_digits (Some places) n = elim (cases_lt places (exponent_of n)) [
  | inl long ↦
      let rounded = scientific_rounded places n long in
      rw (digits_after places n, rounded_long places n long)
      (rounded_power _ _ places (scientific (Some places) n).exponent rounded.0 rounded.1)
  | inr short ↦
      let whole = scientific_whole places n short in
      rw (digits_after places n, rounded_short places n short, whole.0, whole.1)
      (short_power n places (exponent_of n) short)
]

-- ---- the law

zero_rounded : (precision : Option ℕ) → rounded_units precision 0 ≡ 0
zero_rounded None = refl
zero_rounded (Some places) = grind (arith, exponent_of_zero, nat_lt)

some_scale : (scale units : ℕ) → scale ≡ scale_of scale (suc units)
some_scale scale units = grind arith

pub exponents_denote : (upper : Bool) (precision : Option ℕ) (scale units : ℕ) →
    DenotesUnits upper scale (rounded_units precision units)
    (decimal_exponent_text upper precision scale units)
unfolding decimal_exponent_text
exponents_denote upper precision scale zero =
    subst (λ u. DenotesUnits upper scale u (decimal_exponent_text upper precision scale 0))
    (sym (zero_rounded precision))
    (zero_scaled upper scale _
    (subst (λ u. DenotesUnits upper 0 u (decimal_exponent_text upper precision scale 0))
    (zero_rounded precision)
    (denoted upper 0 (rounded_units precision 0) (scientific precision 0).exponent
    (scientific precision 0).digits (numeral_digits precision 0) (value_digits precision 0))))
exponents_denote upper precision scale (suc units) =
    let form = scientific precision (suc units) in
    subst (λ s. DenotesUnits upper scale (rounded_units precision (suc units))
    (with_point form.digits ++ scaled_tail upper form.exponent s)) (some_scale scale units)
    (denoted upper scale (rounded_units precision (suc units)) form.exponent form.digits
    (numeral_digits precision (suc units)) (value_digits precision (suc units)))
