-- The bytes that mark fields and lines. A text is its bytes in UTF-8, where a byte below 128 is
-- that character, and no part of another.
use Rattle.std.specs.Prelude.{◌≢◌, ⊤, ℕ, List, [], ◌∷◌}
use Rattle.records.specs.declared.separator.Separator.{Separator}
use Rattle.records.specs.declared.separator.Separator.TheVariants.{Comma, Semicolon, Tab}

-- `"`
abbrev pub quote : ℕ
quote = 34

-- a blank
abbrev pub blank : ℕ
blank = 32

-- the two bytes of line ends
abbrev pub line_feed : ℕ
line_feed = 10

abbrev pub carriage_return : ℕ
carriage_return = 13

-- the byte of a separator
abbrev pub byte_of : Separator → ℕ
byte_of Comma = 44
byte_of Semicolon = 59
byte_of Tab = 9

-- a text does not begin with this byte
abbrev pub NotFirst : ℕ → List ℕ → Type 0
NotFirst b [] = ⊤
NotFirst b (c ∷ cs) = c ≢ b
