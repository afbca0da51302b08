-- Texts between quotes, with escapes.
use Rattle.std.specs.Prelude.{ℕ, List, [], ◌∷◌, ◌++◌, Option, Some, None, false, if◌then◌else◌}
use Rattle.std.specs.Prelude.{codes, ◌==◌, ◌||◌, nat_lt}
use Rattle.std.specs.List.{flat_map}
use Rattle.interpolator_render.specs.Characters.{backslash, carriage_return, delete, letter_n}
use Rattle.interpolator_render.specs.Characters.{letter_r, letter_t, newline, null, space, tab}
use Rattle.interpolator_digits.specs.{Characters.zero_digit, Digits.digit_text}

-- the character that is written after a backslash for c, if there is one: the quote, a backslash,
-- `0`, `t`, `r` or `n`
abbrev pub escape_letter : ℕ → ℕ → Option ℕ
escape_letter quote c =
    if c == quote then Some quote else
    (if c == backslash then Some backslash else
    (if c == null then Some zero_digit else
    (if c == tab then Some letter_t else
    (if c == carriage_return then Some letter_r else
    (if c == newline then Some letter_n else None)))))

-- a letter after a backslash; any other ASCII control by its number in base sixteen; all else as
-- it is
abbrev pub escape_by : Option ℕ → ℕ → List ℕ
escape_by (Some letter) c = backslash ∷ letter ∷ []
escape_by None c =
    if nat_lt c space || (c == delete)
    then codes "\\u{" ++ (digit_text 16 false c ++ codes "}")
    else c ∷ []

-- what is written between quotes for a character
abbrev pub escape_of : ℕ → ℕ → List ℕ
escape_of quote c = escape_by (escape_letter quote c) c

-- a text between quotes
abbrev pub quotation : ℕ → List ℕ → List ℕ
quotation quote text = quote ∷ (flat_map (escape_of quote) text ++ quote ∷ [])
