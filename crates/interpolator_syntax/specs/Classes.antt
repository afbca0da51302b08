-- Classes of characters, and the longest front of a text whose characters are of one class.
use Rattle.std.specs.Prelude.{ℕ, Bool, not, ◌||◌, ◌==◌, if◌then◌else◌, List, [], ◌∷◌}
use Rattle.std.specs.Char.{is_whitespace, is_ascii_digit}
use Rattle.interpolator_syntax.specs.declared.class.Class.{Class}
use Rattle.interpolator_syntax.specs.declared.class.Class.TheVariants.{WhiteSpace, Name, Number}
use Rattle.interpolator_syntax.specs.declared.class.Class.TheVariants.{Literal, Hash, Enclosed}

-- `{`
abbrev pub open_brace : ℕ
open_brace = 123

-- `}`
abbrev pub close_brace : ℕ
close_brace = 125

-- `:`
abbrev pub colon : ℕ
colon = 58

-- `<`
abbrev pub left_angle : ℕ
left_angle = 60

-- `^`
abbrev pub caret : ℕ
caret = 94

-- `>`
abbrev pub right_angle : ℕ
right_angle = 62

-- `+`
abbrev pub plus : ℕ
plus = 43

-- `-`
abbrev pub minus : ℕ
minus = 45

-- `#`
abbrev pub hash : ℕ
hash = 35

-- `.`
abbrev pub point : ℕ
point = 46

-- `?`
abbrev pub question_mark : ℕ
question_mark = 63

-- `=`
abbrev pub equals : ℕ
equals = 61

-- `(`
abbrev pub open_bracket : ℕ
open_bracket = 40

-- `)`
abbrev pub close_bracket : ℕ
close_bracket = 41

-- `0`
abbrev pub zero_digit : ℕ
zero_digit = 48

-- `X`, `x`
abbrev pub upper_x : ℕ
upper_x = 88

abbrev pub lower_x : ℕ
lower_x = 120

-- `E`, `e`
abbrev pub upper_e : ℕ
upper_e = 69

abbrev pub lower_e : ℕ
lower_e = 101

-- `b`, `i`, `o`, `p`
abbrev pub lower_b : ℕ
lower_b = 98

abbrev pub lower_i : ℕ
lower_i = 105

abbrev pub lower_o : ℕ
lower_o = 111

abbrev pub lower_p : ℕ
lower_p = 112

-- `{` or `}`
abbrev pub is_brace : ℕ → Bool
is_brace c = c == open_brace || c == close_brace

-- a character is neither of two
abbrev pub avoids : ℕ → ℕ → ℕ → Bool
avoids first second c = not (c == first || c == second)

-- `<`, `^` or `>`
abbrev pub is_alignment : ℕ → Bool
is_alignment c = c == left_angle || c == caret || c == right_angle

-- whether a character is of a class: a name goes on up to the first colon or closing brace, a
-- literal text up to the first brace, and the text in a bracket up to the first `)`
abbrev pub in_class : Class → ℕ → Bool
in_class WhiteSpace c = is_whitespace c
in_class Name c = avoids colon close_brace c
in_class Number c = is_ascii_digit c || c == minus
in_class Literal c = not (is_brace c)
in_class Hash c = c == hash
in_class Enclosed c = avoids close_bracket close_bracket c

-- the longest front whose characters pass
abbrev pub front_of : (ℕ → Bool) → List ℕ → List ℕ
front_of passes [] = []
front_of passes (c ∷ cs) = if passes c then c ∷ front_of passes cs else []

-- the text after that front
abbrev pub after_of : (ℕ → Bool) → List ℕ → List ℕ
after_of passes [] = []
after_of passes (c ∷ cs) = if passes c then after_of passes cs else (c ∷ cs)
