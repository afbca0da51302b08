-- Bytes as text.
use Rattle.std.specs.Prelude.{◌≡◌, ◌==◌, ◌&&◌, ◌||◌, ℕ, Bool, false, List, ◌∷◌, slice_index, take}
use Rattle.std.specs.Str.{IsValidUpTo}
use Rattle.records.specs.{Places.place_after, Tables.line_start, declared.encoding.BadByte.BadByte}

-- the first byte that is no UTF-8: the bytes before it are, and with it and more none are
pub record IsBad (bytes : List ℕ) (bad : BadByte) : Type 0 where
  pub count : ℕ
  pub valid : IsValidUpTo bytes count
  pub byte : bad.byte ≡ slice_index bytes count
  pub placed : bad.place ≡ place_after (line_start 1) (take count bytes)

-- bytes begin with the mark of UTF-16, in one order of its bytes or the other
abbrev pub is_utf16 : List ℕ → Bool
is_utf16 (a ∷ b ∷ rest) = (a == 0xFF && b == 0xFE) || (a == 0xFE && b == 0xFF)
is_utf16 _ = false
