-- The pairs of a sample as a map.
use Rattle.std.specs.Prelude.{◌≡◌, ℕ, List, [], ◌∷◌, ◌++◌}
use Rattle.std.specs.{Borrow.Bor, HashMap.HashMap, HashMap.get_by, Str.bytes_eq}
use Rattle.interpolator_eval.specs.Contexts.{last_under}

module _ {Y S : Type 0} where
  -- a map has under each name what the last pair of the name has
  abbrev pub HasLast : List (Bor (List ℕ) × Y) → HashMap (Bor (List ℕ)) Y S → Type 0
  HasLast pairs map =
      (name : List ℕ) → get_by (λ own. bytes_eq name own.now) map ≡ last_under pairs name

  -- `new` is the map of one more pair than `old`
  abbrev pub HasOneMore : (old : HashMap (Bor (List ℕ)) Y S) → Bor (List ℕ) × Y
      → (new : HashMap (Bor (List ℕ)) Y S) → Type 0
  HasOneMore old pair new =
      (pairs : List (Bor (List ℕ) × Y)) → HasLast pairs old → HasLast (pairs ++ (pair ∷ [])) new
