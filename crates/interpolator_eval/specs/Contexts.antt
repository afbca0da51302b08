-- What std's maps, and pairs, find under a name, which is a list of characters.
use Rattle.std.specs.Prelude.{ℕ, List, Option, String, reverse}
use Rattle.std.specs.HashMap.{HashMap, get_by, get_by_text}
use Rattle.std.specs.{List.find, Option.option_map, Str.bytes_eq, Str.encode_utf8_all, Borrow.Bor}
use Rattle.interpolator_eval.specs.Slots.{Slots, slots_of}
use Rattle.interpolator_eval.specs.declared.slots.Formattable.{Formattable}

-- the tree under the name, in a map whose keys are borrowed texts
abbrev pub found_by_str : {X S : Type 0} → HashMap (Bor (List ℕ)) (Formattable X) S → List ℕ
    → Option (Slots X)
found_by_str map name =
    option_map slots_of (get_by (λ key. bytes_eq (encode_utf8_all name) key.now) map)

-- the tree under the name, in a map whose keys are owned texts
abbrev pub found_by_text : {X A S : Type 0} → HashMap (String A) (Formattable X) S → List ℕ
    → Option (Slots X)
found_by_text map name = option_map slots_of (get_by_text map (encode_utf8_all name))

-- the value of the last pair whose name has these bytes
abbrev pub last_under : {Y : Type 0} → List (Bor (List ℕ) × Y) → List ℕ → Option Y
last_under pairs bytes =
    option_map (λ pair. pair.1) (find (λ pair. bytes_eq bytes pair.0.now) (reverse pairs))

-- the tree in the last pair of the name
abbrev pub found_by_pairs : {X : Type 0} → List (Bor (List ℕ) × Formattable X) → List ℕ
    → Option (Slots X)
found_by_pairs pairs name = option_map slots_of (last_under pairs (encode_utf8_all name))
