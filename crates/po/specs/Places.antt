-- How wide a byte of a string is written.
use Rattle.std.specs.Prelude.{ℕ, ◌==◌, List, ◌∷◌, if◌then◌else◌}
use Rattle.po.specs.{Marks.backslash, Strings.is_octal}

-- how many bytes write the byte of a string that a text begins with
abbrev pub width_of : List ℕ → ℕ
width_of (b ∷ c ∷ rest) = if b == backslash then (if is_octal c then 4 else 2) else 1
width_of _ = 1
