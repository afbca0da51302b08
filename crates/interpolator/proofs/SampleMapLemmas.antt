-- A map of pairs finds what the pairs do.
use Rattle.std.proofs.Common.{◌≡◌, refl, sym, ap, ℕ, Bool, true, false, cond, List, [], ◌∷◌, ◌++◌}
use Rattle.std.proofs.Common.{Option, Some, option_map, reverse, length, take, get_or, ◌+◌, ◌<◌}
use Rattle.std.proofs.lemmas.List.{reverse-append, take_more}
use Rattle.std.proofs.{Math.Path.fun_ext, lemmas.Slice.Eq.bytes_eq-Decides}
use Rattle.std.specs.{Borrow.Bor, HashMap.HashMap, HashMap.get_by, List.find, Str.bytes_eq}
use Rattle.std.specs.Str.{encode_utf8_all}
use Rattle.interpolator_eval.specs.Contexts.{found_by_pairs, found_by_str, last_under}
use Rattle.interpolator_eval.specs.{Slots.slots_of, declared.slots.Formattable.Formattable}
use Rattle.interpolator.specs.SampleMaps.{HasLast, HasOneMore}

-- two tests that pass each other's way are the same
same_test : (a b : Bool) → (a ≡ true → b ≡ true) → (b ≡ true → a ≡ true) → a ≡ b
same_test true b there back = sym (there refl)
same_test false true there back = back refl
same_test false false there back = refl

-- a test whether two names are the same takes them in either order
swapped : (xs ys : List ℕ) → bytes_eq xs ys ≡ bytes_eq ys xs
swapped xs ys = same_test _ _
    (λ e. (bytes_eq-Decides ys xs).1 (sym ((bytes_eq-Decides xs ys).0 e)))
    (λ e. (bytes_eq-Decides xs ys).1 (sym ((bytes_eq-Decides ys xs).0 e)))

-- a name that is lent
abbrev lent : List ℕ → Bor (List ℕ)
lent name = record { ref_ptr = (0, 0); now = name }

module _ {Y : Type 0} where
  chosen : (b : Bool) (x : Bor (List ℕ) × Y) (rest : Option (Bor (List ℕ) × Y))
      → option_map (λ pair. pair.1) (cond b (Some x) rest)
      ≡ cond b (Some x.1) (option_map (λ pair. pair.1) rest)
  chosen true x rest = refl
  chosen false x rest = refl

  -- the last pair of a name, with one more pair at the end
  last_more : (pairs : List (Bor (List ℕ) × Y)) (x : Bor (List ℕ) × Y) (name : List ℕ)
      → last_under (pairs ++ (x ∷ [])) name
      ≡ cond (bytes_eq name x.0.now) (Some x.1) (last_under pairs name)
  last_more pairs x name =
      rw (reverse-append pairs (x ∷ []))
      (chosen (bytes_eq name x.0.now) x (find (λ pair. bytes_eq name pair.0.now) (reverse pairs)))

  -- a map of pairs, once one more is put in
  pub pair_more : {S : Type 0} (x : Bor (List ℕ) × Y) (old new : HashMap (Bor (List ℕ)) Y S)
      → ((q : Bor (List ℕ)) → get_by (λ one. bytes_eq q.now one.now) new
      ≡ cond (bytes_eq x.0.now q.now) (Some x.1) (get_by (λ one. bytes_eq q.now one.now) old))
      → (pairs : List (Bor (List ℕ) × Y)) → HasLast pairs old → HasLast (pairs ++ (x ∷ [])) new
  pair_more x old new puts pairs so_far name =
      let put : get_by (λ one. bytes_eq name one.now) new
      ≡ cond (bytes_eq x.0.now name) (Some x.1) (get_by (λ one. bytes_eq name one.now) old) =
      puts (lent name) in
      rw (put, so_far name, swapped x.0.now name, last_more pairs x name) refl

  -- the map of the pairs before a place, once the pair at the place is put in
  pub last_next : {S : Type 0} (pairs : List (Bor (List ℕ) × Y)) (n : ℕ) (pair : Bor (List ℕ) × Y)
      (old new : HashMap (Bor (List ℕ)) Y S) → n < length pairs
      → HasOneMore old (get_or pairs n pair) new → HasLast (take n pairs) old
      → HasLast (take (n + 1) pairs) new
  last_next pairs n pair old new within more so_far =
      rw (take_more pairs n pair within) (more (take n pairs) so_far)

-- what such a map finds
pub map_finds : {X S : Type 0} (pairs : List (Bor (List ℕ) × Formattable X))
    (map : HashMap (Bor (List ℕ)) (Formattable X) S) → HasLast pairs map
    → found_by_str map ≡ found_by_pairs pairs
map_finds pairs map has =
    fun_ext (λ name. ap (option_map slots_of) (has (encode_utf8_all name)))
