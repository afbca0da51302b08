-- What a command line says: limits that flags set, a format, and words. Texts are bytes.
use Rattle.std.specs.Prelude.{ℕ, nat_lt, ◌^◌, ◌&&◌, Bool, List, [], ◌∷◌, codes, length, map, eqb}
use Rattle.std.specs.Prelude.{if◌then◌else◌, Option, None, Some, string_bytes}
use Rattle.std.specs.{Option.option_and_then, Char.is_ascii_digit, List.list_all, List.starts_with}
use Rattle.std.specs.{Str.bytes_eq, Str.Parse.digits_value, Str.Parse.without_leading_plus}
use Rattle.interpolator.specs.{declared.Cost.Cost, declared.Limits.Limits}
use Rattle.strangers.specs.{declared.reading.Request.Request, declared.serving.Allowed.Allowed}

-- what a command line says: the limits, the format, and the words after it
abbrev pub Asked : Type 0
Asked = Allowed × List ℕ × List (List ℕ)

-- a request, borrows aside
abbrev pub as_asked : Request → Asked
as_asked request = (request.allowed, request.format.now, map string_bytes request.words.now)

-- the limits by default
abbrev pub usual : Allowed
usual = record {
  values = record { text = 80; items = 20 };
  most = record { characters = 10000; pieces = 1000; buffered = 10000 };
}

-- one or more ASCII digits
abbrev pub is_numeral : List ℕ → Bool
is_numeral text = nat_lt 0 (length text) && list_all is_ascii_digit text

-- the number that digits write, if it is below 2^64
abbrev pub number_in : List ℕ → Option ℕ
number_in text =
    if is_numeral text && nat_lt (digits_value 10 text) (2 ^ 64)
    then Some (digits_value 10 text) else None

-- the limit that a text sets: digits, after an optional `+`
abbrev pub limit_of : List ℕ → Option ℕ
limit_of text = number_in (without_leading_plus text)

-- the limits with another one of the values, or of the cost
abbrev pub with_values : Allowed → Limits → Allowed
with_values allowed values = record { values = values; most = allowed.most }

abbrev pub with_most : Allowed → Cost → Allowed
with_most allowed most = record { values = allowed.values; most = most }

-- the limits with a new number for the one that a flag names
abbrev pub with_limit : Allowed → (flag : List ℕ) → (limit : ℕ) → Option Allowed
with_limit allowed flag limit =
    if bytes_eq flag (codes "--characters")
    then Some (with_most allowed (record {
      characters = limit;
      pieces = allowed.most.pieces;
      buffered = allowed.most.buffered;
    }))
    else if bytes_eq flag (codes "--pieces")
    then Some (with_most allowed (record {
      characters = allowed.most.characters;
      pieces = limit;
      buffered = allowed.most.buffered;
    }))
    else if bytes_eq flag (codes "--buffered")
    then Some (with_most allowed (record {
      characters = allowed.most.characters;
      pieces = allowed.most.pieces;
      buffered = limit;
    }))
    else if bytes_eq flag (codes "--text")
    then Some (with_values allowed (record { text = limit; items = allowed.values.items }))
    else if bytes_eq flag (codes "--items")
    then Some (with_values allowed (record { text = allowed.values.text; items = limit }))
    else None

-- the limits with the number that a text sets for a flag, if it does
abbrev pub with_flag : Allowed → (flag text : List ℕ) → Option Allowed
with_flag allowed flag text = option_and_then (with_limit allowed flag) (limit_of text)

-- `--` itself, which ends the flags
abbrev pub ends_flags : List ℕ → Bool
ends_flags text = bytes_eq text (codes "--")

-- a text begins with `--`, as flags do
abbrev pub is_flag : List ℕ → Bool
is_flag text = starts_with eqb text (codes "--")

-- the request of a command line that is read with these limits so far. Its first argument is the
-- format; or it is `--`, and the format is next; or it is a flag, its number is next, and the rest
-- is read with that limit changed. A flag that is repeated has its last number. There is no request
-- without a format, nor with a flag that is unknown or has no number
abbrev pub asked_from : Allowed → List (List ℕ) → Option Asked
asked_from allowed [] = None
asked_from allowed (first ∷ []) =
    if is_flag first then None else Some (allowed, first, [])
asked_from allowed (first ∷ second ∷ rest) =
    if ends_flags first then Some (allowed, second, rest)
    else if is_flag first
    then option_and_then (λ changed. asked_from changed rest) (with_flag allowed first second)
    else Some (allowed, first, second ∷ rest)

-- the request of a command line, if it has one
abbrev pub asked_by : List (List ℕ) → Option Asked
asked_by line = asked_from usual line
