-- The last position of a name, found from the first name to the last.
use Rattle.std.proofs.Common.{arith, ◌≡◌, refl, ℕ, Bool, true, false, cond, List, [], ◌∷◌, ◌++◌}
use Rattle.std.proofs.Common.{length, Some, sym, take, get_or, ◌+◌, ◌<◌}
use Rattle.std.proofs.lemmas.Slice.Eq.{bytes_eq-Decides}
use Rattle.std.proofs.lemmas.List.{length-map, length-take-le, map-append, map_more}
use Rattle.std.specs.Prelude.{if◌then◌else◌, String, string_bytes}
use Rattle.std.specs.{Borrow.Bor, HashMap.HashMap, HashMap.get_by, Str.bytes_eq}
use Rattle.interpolator_prepared.specs.Rows.{HasPositions, last_position, name_bytes}

-- the last position with one more name at the end
pub position_more : (names : List (List ℕ)) (own name : List ℕ)
    → last_position (names ++ (own ∷ [])) name
    ≡ (if bytes_eq name own then Some (length names) else last_position names name)
position_more [] own name = grind arith
position_more (x ∷ xs) own name = grind (arith, position_more xs own name)

-- the last of some names, or those before it
module _ {Z : Type 0} (names before : List (String Z)) (own : String Z) (name : List ℕ)
    (is : names ≡ before ++ (own ∷ [])) where
  by_test : last_position (name_bytes names) name
      ≡ (if bytes_eq name (string_bytes own) then Some (length before)
      else last_position (name_bytes before) name)
  by_test = rw (is, map-append, position_more, length-map) refl

  pub found_last : bytes_eq name (string_bytes own) ≡ true
      → Some (length before) ≡ last_position (name_bytes names) name
  found_last test = sym (rw test at by_test)

  pub found_before : bytes_eq name (string_bytes own) ≡ false
      → last_position (name_bytes before) name ≡ last_position (name_bytes names) name
  found_before test = sym (rw test at by_test)

-- two tests that pass each other's way are the same
same_test : (a b : Bool) → (a ≡ true → b ≡ true) → (b ≡ true → a ≡ true) → a ≡ b
same_test true b there back = sym (there refl)
same_test false true there back = back refl
same_test false false there back = refl

-- a test whether two names are the same takes them in either order
swapped : (xs ys : List ℕ) → bytes_eq xs ys ≡ bytes_eq ys xs
swapped xs ys = same_test _ _
    (λ e. (bytes_eq-Decides ys xs).1 (sym ((bytes_eq-Decides xs ys).0 e)))
    (λ e. (bytes_eq-Decides xs ys).1 (sym ((bytes_eq-Decides ys xs).0 e)))

-- a name that is lent
abbrev lent : List ℕ → Bor (List ℕ)
lent name = record { ref_ptr = (0, 0); now = name }

-- a map of the last positions of names, once one more name is put in
pub one_more : {S : Type 0} (names : List (List ℕ)) (own : List ℕ) (position : ℕ)
    (old new : HashMap (Bor (List ℕ)) ℕ S)
    → position ≡ length names → HasPositions names old
    → ((q : Bor (List ℕ)) → get_by (λ one. bytes_eq q.now one.now) new
    ≡ cond (bytes_eq own q.now) (Some position) (get_by (λ one. bytes_eq q.now one.now) old))
    → HasPositions (names ++ (own ∷ [])) new
one_more names own position old new counts so_far puts name =
    let put : get_by (λ one. bytes_eq name one.now) new
    ≡ cond (bytes_eq own name) (Some position) (get_by (λ one. bytes_eq name one.now) old) =
    puts (lent name) in
    rw (put, so_far name, swapped own name, counts, position_more names own name) refl

-- names up to one more
pub names_more : {Z : Type 0} (names : List (String Z)) (i : ℕ) (own : String Z) → i < length names
    → own ≡ get_or names i own
    → name_bytes (take (i + 1) names) ≡ name_bytes (take i names) ++ (string_bytes own ∷ [])
names_more names i own within here =
    rw (map_more (λ name. string_bytes name) names i own within, ← here) refl

pub names_before : {Z : Type 0} (names : List (String Z)) (i : ℕ) → i < length names
    → i ≡ length (name_bytes (take i names))
names_before names i within =
    rw (length-map, length-take-le i names (omega (arith, within))) refl
