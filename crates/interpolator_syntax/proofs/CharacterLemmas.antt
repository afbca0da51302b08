-- The characters of a text, and its bytes.
use Rattle.std.proofs.Common.{◌≡◌, ℕ, ◌+◌, List, [], ◌∷◌, ◌++◌, length, arith, refl, ◌<◌, ap, ◌∙◌}
use Rattle.std.proofs.Common.{sym, chars, IsUtf8, encode_utf8_all, encode_utf8, length-append}
use Rattle.std.proofs.lemmas.{Str.chars_past_char, Str.chars-nil, Str.length-encode}
use Rattle.std.proofs.lemmas.{Str.len_utf8_bounds, Str.encodes-chars, List.nil_from_length}
use Rattle.std.specs.Char.{len_utf8}
use Rattle.interpolator_syntax.specs.Places.{size}

pub chars_of_next : (bs rest : List ℕ) (c : ℕ) → IsUtf8 bs → bs ≡ encode_utf8 c ++ rest
    → chars bs ≡ c ∷ chars rest
chars_of_next bs rest c u e = chars_past_char bs rest c u e

pub chars_of_end : (bs : List ℕ) → length bs ≡ 0 → chars bs ≡ []
chars_of_end bs e = ap chars (nil_from_length bs e) ∙ chars-nil

pub length_of_next : (bs rest : List ℕ) (c : ℕ) → bs ≡ encode_utf8 c ++ rest
    → length bs ≡ len_utf8 c + length rest
length_of_next bs rest c e = grind (arith, length-append, length-encode)

pub shorter_after : (bs rest : List ℕ) (c : ℕ) → bs ≡ encode_utf8 c ++ rest
    → length rest < length bs
shorter_after bs rest c e = omega (arith, length_of_next bs rest c e, len_utf8_bounds c)

pub nil_of_end : (bs : List ℕ) → length bs ≡ 0 → bs ≡ []
nil_of_end bs e = nil_from_length bs e

pub length-encodes : (cs : List ℕ) → length (encode_utf8_all cs) ≡ size cs
length-encodes [] = refl
length-encodes (c ∷ cs) = grind (arith, length-append, length-encode, length-encodes cs)

-- how many bytes a text has
pub size-chars : (bs : List ℕ) → IsUtf8 bs → size (chars bs) ≡ length bs
size-chars bs u = sym (length-encodes (chars bs)) ∙ ap length (encodes-chars bs u)

pub no_text : (bs : List ℕ) → bs ≡ [] → chars bs ≡ []
no_text bs e = grind (arith, chars-nil)

-- the text that is left after the first character
pub ruleset first_character =
    (chars_of_next, chars_of_end, length_of_next, shorter_after, nil_of_end)
