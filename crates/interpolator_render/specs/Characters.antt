-- Characters with a name, and what a precision leaves of a text.
use Rattle.std.specs.Prelude.{ℕ, List, take, Option, Some, None}

-- a space
abbrev pub space : ℕ
space = 32

-- `"`
abbrev pub double_quote : ℕ
double_quote = 34

-- `'`
abbrev pub single_quote : ℕ
single_quote = 39

-- `\`
abbrev pub backslash : ℕ
backslash = 92

-- the character with the number 0
abbrev pub null : ℕ
null = 0

-- the tab
abbrev pub tab : ℕ
tab = 9

-- the newline
abbrev pub newline : ℕ
newline = 10

-- the carriage return
abbrev pub carriage_return : ℕ
carriage_return = 13

-- the last of the ASCII controls, and the only one that does not come before the space
abbrev pub delete : ℕ
delete = 127

-- `n`, which stands for a newline after a backslash
abbrev pub letter_n : ℕ
letter_n = 110

-- `u`, which begins a number after a backslash
abbrev pub letter_u : ℕ
letter_u = 117

-- `}`
abbrev pub close_brace : ℕ
close_brace = 125

-- `r`, which stands for a carriage return
abbrev pub letter_r : ℕ
letter_r = 114

-- `t`, which stands for a tab
abbrev pub letter_t : ℕ
letter_t = 116

-- what a precision leaves of a text: at most that many characters, or all without one
abbrev pub cut : Option ℕ → List ℕ → List ℕ
cut None text = text
cut (Some count) text = take count text
