-- A quoted text, read back, is the text.
use Rattle.std.proofs.Common.{append_assoc, flat_map, Option, false, arith, codes, List, ◌++◌, ◌==◌}
use Rattle.std.proofs.Common.{refl, Some, None, ◌≡◌, ◌≢◌, ◌<◌, ◌+◌, ◌*◌, ◌∷◌, map, [], ℕ}
use Rattle.std.proofs.{lemmas.Bool.Decides.nat_tests, lemmas.Int.Digits.all_below_base_digits_of}
use Rattle.std.specs.Str.Parse.{digits_value, digits_value_after}
use Rattle.std.specs.{Char.digit_value, Fmt.digit_glyph, Int.Digits.AllBelowBase}
use Rattle.interpolator_digits.specs.Digits.{digit_text}
use Rattle.interpolator_render.specs.Quoting.{escape_letter, escape_of, quotation}
use Rattle.interpolator_render.specs.Unquoting.{IsQuote, preceded_by, escape_meaning, unquoted_from}
use Rattle.interpolator_render.specs.Unquoting.{text_in_quotes, at_character, in_number}
use Rattle.interpolator_render.proofs.LawLemmas.{digits_read}

-- what a quote has to be: neither a backslash nor `u`, and standing for itself
record StandsForItself (quote : ℕ) : Type 0 where
  slash : (92 == quote) ≡ false
  letter : (quote == 117) ≡ false
  own : escape_meaning quote ≡ quote

quotes_stand : (quote : ℕ) → IsQuote quote → StandsForItself quote
quotes_stand quote q = grind arith

-- ---- numbers

no_brace : (d : ℕ) → d < 16 → (digit_glyph false d == 125) ≡ false
no_brace d h = grind (arith, nat_tests)

number_read : (quote n : ℕ) (ds rest : List ℕ) → AllBelowBase 16 ds →
    unquoted_from quote (in_number n) (map (digit_glyph false) ds ++ 125 ∷ rest)
    ≡ preceded_by (digits_value_after 16 n (map (digit_glyph false) ds))
    (unquoted_from quote at_character rest)
number_read quote n [] rest a = refl
number_read quote n (d ∷ ds) rest a =
    rw (no_brace d (omega (arith, a.0)))
    (number_read quote (n * 16 + digit_value (digit_glyph false d)) ds rest a.1)

text_read : (quote n : ℕ) (rest : List ℕ) →
    unquoted_from quote (in_number 0) (digit_text 16 false n ++ 125 ∷ rest)
    ≡ preceded_by (digits_value 16 (digit_text 16 false n)) (unquoted_from quote at_character rest)
unfolding digit_text
text_read quote n rest = grind (arith, nat_tests, number_read, all_below_base_digits_of)

-- a character that is written after a backslash by its number
code_read : (quote c : ℕ) (rest : List ℕ) → StandsForItself quote →
    unquoted_from quote at_character ((codes "\\u{" ++ (digit_text 16 false c ++ codes "}"))
    ++ rest)
    ≡ preceded_by c (unquoted_from quote at_character rest)
code_read quote c rest p = grind (arith, append_assoc, text_read, digits_read)

-- ---- characters

none_read : (quote c : ℕ) (rest : List ℕ) → StandsForItself quote → c ≢ quote → c ≢ 92 →
    escape_letter quote c ≡ None →
    unquoted_from quote at_character (escape_of quote c ++ rest)
    ≡ preceded_by c (unquoted_from quote at_character rest)
none_read quote c rest p q s e = grind (arith, nat_tests, code_read)

-- a letter after a backslash stands for its character
letter_meaning : (quote c letter : ℕ) → StandsForItself quote
    → escape_letter quote c ≡ Some letter →
    ((letter == 117) ≡ false) × (escape_meaning letter ≡ c)
letter_meaning quote c letter p e = grind (arith, nat_tests)

escaped_read : (quote c : ℕ) (rest : List ℕ) (letter : Option ℕ) → StandsForItself quote →
    escape_letter quote c ≡ letter → unquoted_from quote at_character (escape_of quote c ++ rest)
    ≡ preceded_by c (unquoted_from quote at_character rest)
escaped_read quote c rest letter p e = grind (arith, none_read, nat_tests, letter_meaning)

-- ---- texts

inside_read : (quote : ℕ) (text after : List ℕ) → StandsForItself quote →
    unquoted_from quote at_character (flat_map (escape_of quote) text ++ quote ∷ after)
    ≡ record { text = text; after = after }
inside_read quote [] after p = grind arith
inside_read quote (c ∷ cs) after p =
    grind (arith, append_assoc, escaped_read, flat_map, inside_read quote cs after p)

pub quoted_read : (quote : ℕ) (text after : List ℕ) → IsQuote quote →
    text_in_quotes quote (quotation quote text ++ after) ≡ Some (record { text = text; after = after })
quoted_read quote text after q = grind (arith, append_assoc, inside_read, quotes_stand)
