-- The ends of a name as numbers, by which short names are compared.
use Rattle.std.specs.Prelude.{ℕ, List, Bool, true, ◌≡◌, ◌≤◌, ◌+◌, ◌-◌, ◌==◌, ◌||◌, take, drop, length}
use Rattle.std.specs.Prelude.{slice_index, if◌then◌else◌}
use Rattle.std.specs.Int.{w16, w32, w64, from_le_bytes}

-- whether so many bytes are read as one number
abbrev pub is_word_size : ℕ → Bool
is_word_size n = n == 1 || (n == 2 || (n == 4 || n == 8))

-- so many bytes as one number
abbrev pub word : ℕ → List ℕ → ℕ
word n bytes =
    if n == 1 then slice_index bytes 0
    else if n == 2 then from_le_bytes w16 bytes
    else if n == 4 then from_le_bytes w32 bytes
    else from_le_bytes w64 bytes

-- a name of `n` to twice `n` bytes, and its first and its last `n` bytes as numbers
unfoldable pub AreEnds : (n : ℕ) → (name : List ℕ) → (front back : ℕ) → Type 0
AreEnds n name front back =
    (is_word_size n ≡ true) × (n ≤ length name) × (length name ≤ n + n)
    × (front ≡ word n (take n name)) × (back ≡ word n (drop (length name - n) name))
