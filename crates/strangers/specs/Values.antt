-- The values that a format is given: what they show, and what limits they keep.
use Rattle.std.specs.Prelude.{⊤, ℕ, ◌+◌, ◌<◌, ◌^◌, ◌==◌, max, FitsSigned, List, [], ◌∷◌, All}
use Rattle.std.specs.Prelude.{length, map, Option, None, Some, if◌then◌else◌}
use Rattle.std.specs.Str.{bytes_eq, chars, encode_utf8_all}
use Rattle.std.specs.{Borrow.Bor, Int.w128, Option.option_or}
use Rattle.interpolator_digits.specs.Decimals.{decimal_text}
use Rattle.interpolator_render.specs.Numbers.{distance_from_zero}
use Rattle.interpolator.specs.Slots.{Slots, slots_of, empty_slots, with_integer, with_iter}
use Rattle.interpolator.specs.Views.{Shown, some_text, signed_number, decimal_number}
use Rattle.interpolator.specs.{declared.Bits.TheVariants.B128, declared.Decimal.Decimal}
use Rattle.interpolator.specs.declared.Formattable.{Formattable}
use Rattle.strangers.specs.declared.values.Datum.TheVariants.{Text, Number, Decimal as InDecimal}
use Rattle.strangers.specs.declared.values.Given.TheVariants.{One, Many}
use Rattle.strangers.specs.{declared.values.Datum.Datum, declared.values.Given.Given}
use Rattle.strangers.specs.{declared.values.Word.Word, declared.lending.Lent.Lent}
use Rattle.strangers.specs.declared.lending.Lent.TheVariants as lent
use Rattle.strangers.specs.declared.lending.Entry.{Entry}

-- what a value shows: its text, its whole number at 128 bits, or its decimal
abbrev pub datum_shows : Datum → Shown
datum_shows (Text text) = some_text (chars text.now)
datum_shows (Number number) = signed_number number B128
datum_shows (InDecimal decimal) = decimal_number decimal.units decimal.scale

-- what is given under the name of a word: one value in each slot, or a list of such values
abbrev pub given_slots : Given → Slots Datum
given_slots (One value) = with_integer empty_slots value
given_slots (Many values) = with_iter empty_slots (map (with_integer empty_slots) values.items)

-- what is given under a name, its values lent
abbrev pub lent_slots : Lent → Slots Datum
lent_slots (lent.One value) = with_integer empty_slots value.now
lent_slots (lent.Many items) = with_iter empty_slots (map slots_of items.items)

-- a name and what is given under it
abbrev pub Named : Type 0
Named = List ℕ × Slots Datum

-- the name of a word, with what is given under it
abbrev pub word_named : Word → Named
word_named word = (word.name.now, given_slots word.given)

-- the name of an entry, with what is given under it: the values of a word, lent
abbrev pub entry_named : Entry → Named
entry_named entry = (entry.name.now, lent_slots entry.lent)

-- the name of a pair of a context, with what is given under it
abbrev pub pair_named : Bor (List ℕ) × Formattable Datum → Named
pair_named pair = (pair.0.now, slots_of pair.1)

-- the pairs of a context
abbrev pub Row : Type 0
Row = List (Bor (List ℕ) × Formattable Datum)

-- what is found under a name, by its characters: what the last word of that name gives
abbrev pub found_by_words : List Word → List ℕ → Option (Slots Datum)
found_by_words [] name = None
found_by_words (word ∷ words) name = option_or (found_by_words words name)
    (if bytes_eq (encode_utf8_all name) word.name.now then Some (given_slots word.given) else None)

-- how many characters are after the digits before the point: the point and the digits after it,
-- or none
abbrev pub count_after : (scale : ℕ) → ℕ
count_after scale = if scale == 0 then 0 else scale + 1

-- how many characters a decimal has without a precision, with one for a sign
abbrev pub decimal_characters : Decimal → ℕ
decimal_characters decimal =
    length (decimal_text None decimal.scale (distance_from_zero decimal.units)) + 1

-- how many characters a value's text has; a whole number has no text
abbrev pub characters_of : Datum → ℕ
characters_of (Text text) = length (chars text.now)
characters_of (Number number) = 0
characters_of (InDecimal decimal) = decimal_characters decimal

-- how many characters the longest text among some values has
abbrev pub longest_of : List Datum → ℕ
longest_of [] = 0
longest_of (value ∷ values) = max (characters_of value) (longest_of values)

-- a whole number is one of 128 bits; the units of a decimal have as many, and its scale has 32
abbrev pub IsInRange : Datum → Type 0
IsInRange (Text text) = ⊤
IsInRange (Number number) = FitsSigned w128 number
IsInRange (InDecimal decimal) = FitsSigned w128 decimal.units × (decimal.scale < 2 ^ 32)

-- so are the values that a word gives
abbrev pub AreInRange : Given → Type 0
AreInRange (One value) = IsInRange value
AreInRange (Many values) = All IsInRange values.items
