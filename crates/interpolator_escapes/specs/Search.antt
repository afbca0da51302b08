-- First bytes, by which the search for characters that are escaped goes.
use Rattle.std.specs.Prelude.{◌≡◌, ◌<◌, ◌+◌, ◌%◌, ℕ, Bool, false, List, ◌==◌, ◌||◌, nat_lt, get_or}
use Rattle.std.specs.Prelude.{bit_or, bit_xor, if◌then◌else◌}
use Rattle.std.specs.Int.{w64, trailing_zeros}
use Rattle.interpolator_escapes.specs.declared.escape.Escape.{Escape}
use Rattle.interpolator_escapes.specs.declared.escape.Escape.TheVariants.{Line, Html, Csv, Json}
use Rattle.interpolator_escapes.specs.declared.escape.Escape.TheVariants.{Shell}

-- a character that is escaped may begin with this byte: every one that is begins with such a byte
abbrev pub may_begin_escaped : Escape → ℕ → Bool
may_begin_escaped Line byte =
    nat_lt byte 32 || (byte == 127) || (byte == 92) || (byte == 194) || (byte == 216)
    || (byte == 226)
may_begin_escaped Html byte =
    (byte == 38) || (byte == 60) || (byte == 62) || (byte == 34) || (byte == 39)
may_begin_escaped Csv byte = byte == 34
may_begin_escaped Json byte = nat_lt byte 32 || (byte == 34) || (byte == 92) || (byte == 60)
may_begin_escaped Shell byte = byte == 39

-- the place of the lowest mark of so many, each of which is a bit; their count, if there is none
abbrev pub first_mark : (marks count : ℕ) → ℕ
first_mark marks count = if marks == 0 then count else trailing_zeros w64 marks

-- 255, if a test holds
abbrev pub doubt_if : Bool → ℕ → ℕ
doubt_if is_reported other = if is_reported then 255 else other

-- how far a byte is to be doubted, in few steps
abbrev pub doubt : Escape → ℕ → ℕ
doubt Line byte = doubt_if (byte == 92) ((byte + 224) % 256)
doubt Html byte = doubt_if ((bit_or byte 2 == 62) || (bit_or byte 5 == 39)) 0
doubt Csv byte = doubt_if (byte == 34) 0
doubt Json byte = doubt_if (bit_or byte 96 == 124) (bit_xor byte 253)
doubt Shell byte = doubt_if (byte == 39) 0

-- the greatest doubt of a byte with which none of these characters begins
abbrev pub most_plain : Escape → ℕ
most_plain Line = 94
most_plain Html = 0
most_plain Csv = 0
most_plain Json = 222
most_plain Shell = 0

-- none does with one of so many bytes in front
abbrev pub ArePlain : Escape → List ℕ → ℕ → Type 0
ArePlain escape bytes end = (k : ℕ) → k < end → may_begin_escaped escape (get_or bytes k 0) ≡ false
