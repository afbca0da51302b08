-- A quoted text, read back: the characters up to the first quote that is not escaped.
use Rattle.std.specs.Prelude.{◌≡◌, ℕ, ◌+◌, ◌*◌, ◌⊎◌, List, [], ◌∷◌, Option, Some, None, ◌==◌}
use Rattle.std.specs.Prelude.{if◌then◌else◌}
use Rattle.std.specs.Char.{digit_value}
use Rattle.interpolator_render.specs.Characters.{backslash, carriage_return, close_brace}
use Rattle.interpolator_render.specs.Characters.{double_quote, letter_n, letter_r, letter_t}
use Rattle.interpolator_render.specs.Characters.{letter_u, newline, null, single_quote, tab}
use Rattle.interpolator_digits.specs.Characters.{zero_digit}

-- the quotes of texts and of characters
abbrev pub IsQuote : ℕ → Type 0
IsQuote quote = (quote ≡ double_quote) ⊎ (quote ≡ single_quote)

-- where a reader is: at a character, after a backslash, after `\u`, or in a number, with what it
-- has read of it
pub data Reading : Type 0 where
  at_character : Reading
  after_backslash : Reading
  before_number : Reading
  in_number : ℕ → Reading

-- the text that was read, and what follows its closing quote
pub record Unquoted : Type 0 where
  pub text : List ℕ
  pub after : List ℕ

-- with a character before
abbrev pub preceded_by : ℕ → Unquoted → Unquoted
preceded_by c read = record { text = c ∷ read.text; after = read.after }

-- what a character after a backslash stands for, except `u`
abbrev pub escape_meaning : ℕ → ℕ
escape_meaning c =
    if c == zero_digit then null else
    (if c == letter_t then tab else
    (if c == letter_r then carriage_return else
    (if c == letter_n then newline else c)))

-- what is read from there on
abbrev pub unquoted_from : ℕ → Reading → List ℕ → Unquoted
unquoted_from quote reading [] = record { text = []; after = [] }
unquoted_from quote at_character (c ∷ cs) =
    if c == quote then record { text = []; after = cs } else
    (if c == backslash then unquoted_from quote after_backslash cs
    else preceded_by c (unquoted_from quote at_character cs))
unquoted_from quote after_backslash (c ∷ cs) =
    if c == letter_u then unquoted_from quote before_number cs
    else preceded_by (escape_meaning c) (unquoted_from quote at_character cs)
unquoted_from quote before_number (c ∷ cs) = unquoted_from quote (in_number 0) cs
unquoted_from quote (in_number n) (c ∷ cs) =
    if c == close_brace then preceded_by n (unquoted_from quote at_character cs)
    else unquoted_from quote (in_number (n * 16 + digit_value c)) cs

-- a text after its opening quote, if it begins with one
abbrev pub text_in_quotes : ℕ → List ℕ → Option Unquoted
text_in_quotes quote [] = None
text_in_quotes quote (c ∷ cs) = if c == quote then Some (unquoted_from quote at_character cs) else None
