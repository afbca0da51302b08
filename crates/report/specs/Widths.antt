-- How many columns of a terminal a text takes, by ranges of characters that take none, and two.
use Rattle.std.specs.Prelude.{ℕ, ◌+◌, Bool, false, true, ◌&&◌, ◌||◌, nat_le, cond, List, [], ◌∷◌}
use Rattle.std.specs.{List.sum_by, Str.chars}

-- ranges of characters, each by its first and its last
abbrev pub Ranges : Type 0
Ranges = List (ℕ × ℕ)

-- a character is in one of them
unfoldable pub is_within : Ranges → ℕ → Bool
is_within [] c = false
is_within (range ∷ ranges) c = (nat_le range.0 c && nat_le c range.1) || is_within ranges c

-- they stand in order, from a character on, and no two meet
unfoldable pub rises : ℕ → Ranges → Bool
rises c [] = true
rises c (range ∷ ranges) =
    nat_le c range.0 && (nat_le range.0 range.1 && rises (range.1 + 1) ranges)

-- how many columns a character takes
abbrev pub width_of : (none two : Ranges) → ℕ → ℕ
width_of none two c = cond (is_within none c) 0 (cond (is_within two c) 2 1)

-- how many columns a text takes
abbrev pub width : (none two : Ranges) → List ℕ → ℕ
width none two text = sum_by (width_of none two) (chars text)
