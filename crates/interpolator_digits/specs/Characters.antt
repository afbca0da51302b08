-- The characters of numbers that are no digits but zero.
use Rattle.std.specs.Prelude.{ℕ}

-- `0`
abbrev pub zero_digit : ℕ
zero_digit = 48

-- `.`
abbrev pub point : ℕ
point = 46

-- `e`
abbrev pub lower_e : ℕ
lower_e = 101

-- `E`
abbrev pub upper_e : ℕ
upper_e = 69
