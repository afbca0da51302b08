-- How a field is spelled: as it is, or in quotes.
use Rattle.std.specs.Prelude.{◌≡◌, ◌⊎◌, ⊤, ℕ, ◌==◌, Bool, false, true, cond, ◌||◌, ◌&&◌, List, []}
use Rattle.std.specs.Prelude.{◌∷◌, ◌++◌, string_bytes}
use Rattle.records.specs.Marks.{blank, byte_of, carriage_return, line_feed, quote}
use Rattle.records.specs.declared.field.Field.TheVariants.{Lent, Made}
use Rattle.records.specs.{declared.field.Field.Field, declared.separator.Separator.Separator}

-- the text of a field
abbrev pub text_of : Field → List ℕ
text_of (Lent text) = text.now
text_of (Made text) = string_bytes text

-- a byte may not stand in a field without quotes
abbrev pub stops : Separator → ℕ → Bool
stops separator b =
    (b == byte_of separator) || (b == quote) || (b == line_feed) || (b == carriage_return)

-- a text has no such byte
abbrev pub IsPlain : Separator → List ℕ → Type 0
IsPlain separator [] = ⊤
IsPlain separator (b ∷ bs) = (stops separator b ≡ false) × IsPlain separator bs

-- a text is blanks, or empty
abbrev pub AreBlanks : List ℕ → Type 0
AreBlanks [] = ⊤
AreBlanks (b ∷ bs) = (b ≡ blank) × AreBlanks bs

-- each quote of a text is doubled
abbrev pub doubled : List ℕ → List ℕ
doubled [] = []
doubled (b ∷ bs) = cond (b == quote) (quote ∷ quote ∷ doubled bs) (b ∷ doubled bs)

-- a text is a field in quotes, with blanks or none on both sides
pub record InQuotes (field written : List ℕ) : Type 0 where
  pub before : List ℕ
  pub after : List ℕ
  pub blank_before : AreBlanks before
  pub blank_after : AreBlanks after
  pub is : written ≡ before ++ (quote ∷ (doubled field ++ (quote ∷ after)))

-- a field is spelled as a text: as it is, if it is plain, or in quotes
abbrev pub IsSpelled : Separator → (field written : List ℕ) → Type 0
IsSpelled separator field written =
    (IsPlain separator field × (written ≡ field)) ⊎ InQuotes field written

-- a field may end before this text: it is empty, or begins with the separator or a line end
abbrev pub ends_field : Separator → List ℕ → Bool
ends_field separator [] = true
ends_field separator (b ∷ []) = (b == byte_of separator) || (b == line_feed)
ends_field separator (b ∷ c ∷ more) = (b == byte_of separator) || (b == line_feed)
    || ((b == carriage_return) && (c == line_feed))
