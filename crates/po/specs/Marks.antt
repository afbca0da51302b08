-- The bytes that mark strings, comments and words. A text is its bytes in UTF-8, where a byte below
-- 128 is that character, and no part of another.
use Rattle.std.specs.Prelude.{◌≡◌, ◌≢◌, ⊤, ℕ, Bool, not, true, ◌||◌, ◌==◌, nat_le, List, [], ◌∷◌}

-- `"`
abbrev pub quote : ℕ
quote = 34

-- `\`
abbrev pub backslash : ℕ
backslash = 92

-- `#`
abbrev pub hash : ℕ
hash = 35

-- the end of a line
abbrev pub line_feed : ℕ
line_feed = 10

-- a byte that does not stand for itself in a string: a quote, a backslash, a line feed or a NUL
abbrev pub is_special : ℕ → Bool
is_special b = b == quote || b == backslash || b == line_feed || b == 0

-- any other does
abbrev pub is_plain : ℕ → Bool
is_plain b = not (is_special b)

-- a byte ends a word: white space, another control character, or a quote
abbrev pub ends_word : ℕ → Bool
ends_word b = nat_le b 32 || b == quote

-- a text does not begin with this byte
abbrev pub NotFirst : ℕ → List ℕ → Type 0
NotFirst b [] = ⊤
NotFirst b (c ∷ cs) = c ≢ b

-- a text is empty, or begins with a byte that does not stand for itself in a string
abbrev pub IsStopped : List ℕ → Type 0
IsStopped [] = ⊤
IsStopped (b ∷ bs) = is_special b ≡ true
