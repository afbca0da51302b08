-- A row of values, in the order of names, as an environment.
use Rattle.std.specs.Prelude.{◌≡◌, ◌<◌, ℕ, suc, Bool, true, false, List, [], ◌∷◌, length, map}
use Rattle.std.specs.Prelude.{Option, Some, None, IsSome, option_map, slice_get, string_bytes}
use Rattle.std.specs.{Option.option_and_then, Str.bytes_eq, Str.encode_utf8_all, Borrow.Bor}
use Rattle.std.specs.{HashMap.HashMap, HashMap.get_by, declared.string.String.String}
use Rattle.interpolator_render.specs.declared.view.Trait.{Trait}
use Rattle.interpolator_eval.specs.Slots.{Slots, slots_of, values_of, slot_at, empty_slots}
use Rattle.interpolator_eval.specs.Slots.{with_integer}
use Rattle.interpolator_eval.specs.declared.slots.Formattable.{Formattable}

-- the bytes of names that the code has
abbrev pub name_bytes : {Z : Type 0} → List (String Z) → List (List ℕ)
name_bytes names = map (λ name. string_bytes name) names

-- the bytes of the names of pairs
abbrev pub pair_names : {Y : Type 0} → List (Bor (List ℕ) × Y) → List (List ℕ)
pair_names pairs = map (λ pair. pair.0.now) pairs

-- the position of a name among names with one more in front: one more than that in the rest, or
-- that of the first
abbrev pub later_or_first : Option ℕ → (is_first : Bool) → Option ℕ
later_or_first (Some k) is_first = Some (suc k)
later_or_first None true = Some 0
later_or_first None false = None

-- the last position of a name among these, if it is one of them
abbrev pub last_position : List (List ℕ) → List ℕ → Option ℕ
last_position [] name = None
last_position (own ∷ names) name =
    later_or_first (last_position names name) (bytes_eq name own)

-- a map has the last position of each of these names, and no other name
abbrev pub HasPositions : {S : Type 0} → List (List ℕ) → HashMap (Bor (List ℕ)) ℕ S → Type 0
HasPositions names positions =
    (name : List ℕ) → get_by (λ own. bytes_eq name own.now) positions ≡ last_position names name

-- the value at a position of a row, if the row reaches it
abbrev pub row_at : {X : Type 0} → List (Formattable X) → ℕ → Option (Slots X)
row_at row k = option_map slots_of (slice_get row k)

-- the tree of a value alone, under every formatting trait, at a position of a row, if the row
-- reaches it
abbrev pub cell_at : {X : Type 0} → List X → ℕ → Option (Slots X)
cell_at values k = option_map (λ value. with_integer empty_slots value) (slice_get values k)

-- what is in the slot of a trait: nothing if there is no tree
abbrev pub slot_found : {X : Type 0} → Trait → Option (Slots X) → Option X
slot_found wanted None = None
slot_found wanted (Some found) = slot_at wanted (values_of found)

-- the value at the last position of a name; `value_at` gives the value at each position
abbrev pub found_by_row : {X : Type 0} → List (List ℕ) → (value_at : ℕ → Option (Slots X))
    → List ℕ → Option (Slots X)
found_by_row names value_at name =
    option_and_then value_at (last_position names (encode_utf8_all name))

-- a row has a value for each of these names, in order: there is one at each position, and under a
-- name is what is at its last position
pub record InOrder {X : Type 0} (names : List (List ℕ)) (value_at : ℕ → Option (Slots X))
    (finds : List ℕ → Option (Slots X)) : Type 0 where
  pub reached : (k : ℕ) → k < length names → IsSome (value_at k)
  pub same : finds ≡ found_by_row names value_at

-- a prepared format, as its user sees it: its text, and its names in order, all in bytes
pub record PreparedFormat : Type 0 where
  pub text : List ℕ
  pub names : List (List ℕ)
