-- The number after a flag, and the limits that the rest of a line is read with.
use Rattle.std.proofs.Common.{◌≡◌, arith, refl, rules, sym, ℕ, true, false, List, ◌∷◌, map, Result}
use Rattle.std.proofs.Common.{Some, string_bytes}
use Rattle.std.proofs.lemmas.Bool.Decides.{nat_tests}
use Rattle.std.proofs.lemmas.Str.Parse.{IsNumeralModel, numerals_by_value}
use Rattle.std.specs.Str.Parse.{ParsesUnsigned, digits_value, without_leading_plus}
use Rattle.std.specs.{Char.is_ascii_digit, List.list_all, Result.result_ok}
use Rattle.std.specs.declared.string.String.{String}
use Rattle.strangers.specs.Reading.{asked_from, ends_flags, is_flag, limit_of, with_flag}
use Rattle.strangers.specs.declared.serving.Allowed.{Allowed}

-- texts of digits, and what they write
digits : IsNumeralModel (λ text. list_all is_ascii_digit text ≡ true) (digits_value 10)
digits = numerals_by_value _ (search rules)

-- the limit that a text sets is what is parsed
pub limit_parsed : {E : Type 0} (text : List ℕ) (r : Result ℕ E) → ParsesUnsigned 64 10 text r
    → result_ok r ≡ limit_of text
limit_parsed text r h =
    let number = without_leading_plus text in
    grind (arith, nat_tests, h, digits.from number, digits.to number)

-- a flag with its number changes the limits that the rest is read with
pub after_flag : {Z : Type 0} (allowed changed : Allowed) (first number : String Z)
    (line others rest : List (String Z)) → line ≡ first ∷ others → others ≡ number ∷ rest
    → ends_flags (string_bytes first) ≡ false → is_flag (string_bytes first) ≡ true
    → Some changed ≡ with_flag allowed (string_bytes first) (string_bytes number)
    → asked_from changed (map string_bytes rest) ≡ asked_from allowed (map string_bytes line)
after_flag allowed changed first number line others rest whole two more flag set =
    rw (whole, two, more, flag, sym set) refl
