-- Digits, one after another: what their number is, and when it is in range.
use Rattle.std.proofs.Common.{◌≡◌, ◌≢◌, ℕ, ◌+◌, ◌*◌, ◌^◌, ◌<◌, ◌≤◌, Bool, true, List, [], ◌∷◌, ◌++◌}
use Rattle.std.proofs.Common.{length, get_or, drop, Option, refl, arith}
use Rattle.std.proofs.lemmas.List.{drop_more, drop_all}
use Rattle.std.proofs.lemmas.Str.Parse.{IsNumeralModel, numerals_by_value}
use Rattle.std.specs.Char.{digit_value, is_ascii_digit}
use Rattle.std.specs.Str.Parse.{IsNumeral, digits_value, digits_value_after}
use Rattle.std.specs.{Bool.Decides, List.list_all, Option.SomeIff}

-- ---- which bytes are digits

digits_by_test : IsNumeralModel (λ ds. list_all is_ascii_digit ds ≡ true) (digits_value 10)
digits_by_test = grind (arith, numerals_by_value)

pub numeral_by_test : (test : Bool) (text : List ℕ) → length text ≢ 0 →
    test ≡ list_all is_ascii_digit text → Decides test (IsNumeral 10 text)
numeral_by_test test text some e = grind (arith, digits_by_test)

-- ---- digits after digits

grows : (n : ℕ) (ds : List ℕ) → n ≤ digits_value_after 10 n ds
grows n [] = omega arith
grows n (d ∷ ds) = omega (arith, grows (n * 10 + digit_value d) ds)

value_over : (n : ℕ) (before after : List ℕ) → digits_value_after 10 n (before ++ after)
    ≡ digits_value_after 10 (digits_value_after 10 n before) after
value_over n [] after = refl
value_over n (d ∷ before) after = value_over (n * 10 + digit_value d) before after

value_step : (n : ℕ) (ds : List ℕ) (i : ℕ) → i < length ds →
    digits_value_after 10 n (drop i ds)
    ≡ digits_value_after 10 (n * 10 + digit_value (get_or ds i 0)) (drop (i + 1) ds)
value_step n ds i within = grind (arith, drop_more)

-- ---- the loop: `number` is before all the digits, and `n` before those from the i-th on

pub loop_over : (n number : ℕ) (ds : List ℕ) (i : ℕ) → i < length ds →
    digits_value_after 10 n (drop i ds) ≡ digits_value_after 10 number ds →
    ¬ (n * 10 + digit_value (get_or ds i 0) < 2 ^ 128) →
    ¬ (digits_value_after 10 number ds < 2 ^ 128)
loop_over n number ds i within so_far over fits =
    grind (arith, value_step n ds i within, grows)

pub loop_end : (n number : ℕ) (ds : List ℕ) (i : ℕ) → length ds ≤ i → n < 2 ^ 128 →
    digits_value_after 10 n (drop i ds) ≡ digits_value_after 10 number ds →
    (digits_value_after 10 number ds < 2 ^ 128) × (n ≡ digits_value_after 10 number ds)
loop_end n number ds i past fits so_far = grind (arith, drop_all)

-- ---- the digits before a point and after it

pub front_over : (before after : List ℕ) → ¬ (digits_value 10 before < 2 ^ 128) →
    ¬ (digits_value 10 (before ++ after) < 2 ^ 128)
front_over before after over fits =
    grind (arith, value_over 0 before after, grows (digits_value 10 before) after)

pub count_after : (before after : List ℕ) (whole : ℕ) (answer : Option ℕ) →
    whole ≡ digits_value 10 before →
    SomeIff answer (digits_value_after 10 whole after < 2 ^ 128)
    (digits_value_after 10 whole after) →
    SomeIff answer (digits_value 10 (before ++ after) < 2 ^ 128) (digits_value 10 (before ++ after))
count_after before after whole answer e h = grind (arith, value_over)
