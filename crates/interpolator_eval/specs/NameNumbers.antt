-- A number for each name, and which of some entries, each with its number, is that of a name.
use Rattle.std.specs.Prelude.{ℕ, List, Option, Some, None, Bool, false, cond, slice_get, ◌+◌, ◌*◌}
use Rattle.std.specs.Prelude.{◌-◌, ◌%◌, ◌/◌, ◌^◌, ◌≤◌, ◌==◌, ◌&&◌, ◌≡◌, nat_le, take, drop, length}
use Rattle.std.specs.Prelude.{if◌then◌else◌, string_bytes, slice_index, slice_set}
use Rattle.std.specs.{List.find, List.position_or_len, Option.option_map, Str.bytes_eq}
use Rattle.interpolator_eval.specs.{Names.word, declared.numbered.Numbered.Numbered}

-- what the ends of names are multiplied by
abbrev pub odd : ℕ
odd = 11400714819323198485

-- two numbers and a count in one
unfoldable pub mixed : (front back count : ℕ) → ℕ
mixed front back count =
    (((front * odd) % 2 ^ 64 + back) % 2 ^ 64 + count) % 2 ^ 64 * odd % 2 ^ 64

-- the number of a name by its first and its last `n` bytes
unfoldable pub ends_number : ℕ → List ℕ → ℕ
ends_number n name =
    mixed (word n (take n name)) (word n (drop (length name - n) name)) (length name)

-- the number of a name: names of the same bytes have the same one
abbrev pub name_number : List ℕ → ℕ
name_number name =
    if length name == 0 then 0
    else if nat_le (length name) 2 then ends_number 1 name
    else if nat_le (length name) 4 then ends_number 2 name
    else if nat_le (length name) 8 then ends_number 4 name
    else ends_number 8 name

-- which of 128 guesses is that of a number
abbrev pub guess_index : ℕ → ℕ
guess_index number = number / 2 ^ 57

-- where the entry of a name may be
abbrev pub guess_for : List ℕ → List ℕ → ℕ
guess_for guesses name = slice_index guesses (guess_index (name_number name))

-- the guesses once an entry is put at a place: that of an index is of it, unless of an earlier one
abbrev pub remade : List ℕ → ℕ → ℕ → List ℕ
remade guesses index place =
    if nat_le place (slice_index guesses index) then slice_set guesses index (place % 2 ^ 8)
    else guesses

module _ {X : Type 0} where
  -- whether there is an entry, and it passes
  abbrev pub passes : (X → Bool) → Option X → Bool
  passes test None = false
  passes test (Some x) = test x

  -- the entry at the guessed place, if it passes, else the first that does
  abbrev pub guessed : (X → Bool) → List X → ℕ → Option X
  guessed test xs guess = cond (passes test (slice_get xs guess)) (slice_get xs guess) (find test xs)

  -- the place of that entry, or the count of all
  abbrev pub guessed_place : (X → Bool) → List X → ℕ → ℕ
  guessed_place test xs guess =
      cond (passes test (slice_get xs guess)) guess (position_or_len test xs)

  -- none of the entries before a place passes
  abbrev pub HasPassed : (X → Bool) → List X → ℕ → Type 0
  HasPassed test xs place = (place ≤ length xs)
      × (position_or_len test xs ≡ place + position_or_len test (drop place xs))

module _ {T : Type 0} where
  -- whether an entry is that of a name, and has its number
  abbrev pub is_of : List ℕ → Numbered T → Bool
  is_of name entry = (entry.number == name_number name) && bytes_eq name (string_bytes entry.name)

  -- what the entry of a name stands for
  abbrev pub value_of : List (Numbered T) → List ℕ → List ℕ → Option T
  value_of entries guesses name =
      option_map (λ entry. entry.value) (guessed (is_of name) entries (guess_for guesses name))
