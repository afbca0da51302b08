-- Named values in the order of a format's names are a row of them.
use Rattle.std.proofs.Common.{◌≡◌, arith, ℕ, ◌-◌, ◌<◌, Bool, List, [], ◌∷◌, length, reverse, cond}
use Rattle.std.proofs.Common.{Option, Some, None, IsSome, option_map}
use Rattle.std.proofs.{Math.Path.fun_ext, lemmas.List.reverse-append, lemmas.List.Folds.find-append}
use Rattle.std.specs.{Borrow.Bor, List.find, Option.option_and_then, Option.option_or, Prelude.⊤}
use Rattle.std.specs.{Prelude.slice_get, Str.bytes_eq}
use Rattle.interpolator_eval.specs.Contexts.{last_under}
use Rattle.interpolator_prepared.specs.Rows.{InOrder, last_position, later_or_first, pair_names}
use Rattle.interpolator.specs.NamedValues.{found_by_values, named_at, pairs_of}
use Rattle.interpolator.specs.declared.values.Values.{Values}

-- ---- pairs as a row

abbrev Pair : Type 0 → Type 0
Pair Y = Bor (List ℕ) × Y

module _ {Y : Type 0} where
  abbrev At : List (Pair Y) → ℕ → Option Y
  At pairs k = option_map (λ pair. pair.1) (slice_get pairs k)

  -- the value at the position that was found is that of the pair that was found
  abbrev Agree : List (Pair Y) → Option ℕ → Option (Pair Y) → Type 0
  Agree pairs None None = ⊤
  Agree pairs (Some k) (Some p) = At pairs k ≡ Some p.1
  Agree pairs _ _ = ⊥

  agree_more :
      (x : Pair Y) (pairs : List (Pair Y)) (o : Option ℕ) (r : Option (Pair Y)) (b : Bool) → Agree pairs o r
      → Agree (x ∷ pairs) (later_or_first o b) (option_or r (cond b (Some x) None))
  agree_more x pairs o r b h = grind arith

  agree_found : (pairs : List (Pair Y)) (o : Option ℕ) (r : Option (Pair Y)) → Agree pairs o r
      → option_and_then (At pairs) o ≡ option_map (λ pair. pair.1) r
  agree_found pairs o r h = grind arith

  agree : (pairs : List (Pair Y)) (bytes : List ℕ)
      → Agree pairs (last_position (pair_names pairs) bytes)
      (find (λ pair. bytes_eq bytes pair.0.now) (reverse pairs))
  agree [] bytes = tt
  agree (x ∷ pairs) bytes =
      let test : Pair Y → Bool = λ pair. bytes_eq bytes pair.0.now in
      rw (reverse-append (x ∷ []) pairs, find-append test (reverse pairs) (x ∷ []))
      (agree_more x pairs _ (find test (reverse pairs)) (test x) (agree pairs bytes))

  -- the last pair of a name is at its last position
  last_at : (pairs : List (Pair Y)) (bytes : List ℕ)
      → option_and_then (At pairs) (last_position (pair_names pairs) bytes) ≡ last_under pairs bytes
  last_at pairs bytes = grind (arith, agree pairs bytes)

  reached : (pairs : List (Pair Y)) (k : ℕ) → k < length (pair_names pairs) → IsSome (At pairs k)
  reached [] k h = absurd (omega (arith, h))
  reached (x ∷ pairs) k h = grind (arith, reached pairs (k - 1))

-- a row of values with these names is in their order
pub values_in_order : (values : Values) (names : List (List ℕ)) → names ≡ pair_names (pairs_of values)
    → InOrder names (named_at values) (found_by_values values)
values_in_order values names is = grind (arith, reached, fun_ext, last_at)
