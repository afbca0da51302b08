-- The bytes of a file as text.
use Rattle.std.specs.Prelude.{◌≡◌, ℕ, List, length, slice_index, take}
use Rattle.std.specs.Str.{IsValidUpTo}
use Rattle.catalogue.specs.declared.encoding.BadByte.{BadByte}
use Rattle.interpolator.specs.declared.position.Position.{Position}
use Rattle.interpolator.specs.Positions.{column_at, line_at}
use Rattle.words.specs.Programs.{without_mark}

-- the place behind a text, in which a byte order mark at its head does not count
pub record IsBehind (front : List ℕ) (place : Position) : Type 0 where
  pub line : place.line ≡ line_at (without_mark front) (length front)
  pub column : place.column ≡ column_at (without_mark front) (length front)

-- the first byte that is no UTF-8: the bytes before it are, and with it and more none are
pub record IsBad (bytes : List ℕ) (bad : BadByte) : Type 0 where
  pub count : ℕ
  pub valid : IsValidUpTo bytes count
  pub byte : bad.byte ≡ slice_index bytes count
  pub placed : IsBehind (take count bytes) bad.place
