-- The longest front of a text whose characters pass: that defined by recursion is one, and there is
-- no other.
use Rattle.std.proofs.Common.{◌≡◌, ℕ, Bool, false, IsTrue, IsFalse, All, List, [], ◌∷◌, ◌++◌, refl}
use Rattle.std.proofs.Common.{arith}
use Rattle.std.proofs.lemmas.List.Elements.{All-nil, All-head, All-tail}
use Rattle.interpolator_syntax.specs.Classes.{front_of, after_of}
use Rattle.interpolator_syntax.specs.Grammar.{from_place, IsLongest}
use Rattle.interpolator_syntax.proofs.FrontLemmas.{front_after}

pub at_same : {p q : ℕ} {cs ds : List ℕ} → p ≡ q → cs ≡ ds → from_place p cs ≡ from_place q ds
at_same e h = cc

module _ (passes : ℕ → Bool) where
  front_passes : (cs : List ℕ) → All (λ c. IsTrue (passes c)) (front_of passes cs)
  front_passes [] = All-nil (λ c. IsTrue (passes c))
  front_passes (c ∷ cs) = grind (arith, front_passes cs)

  after_stops : (cs : List ℕ) (c : ℕ) (more : List ℕ) → after_of passes cs ≡ c ∷ more
      → passes c ≡ false
  after_stops [] c more h = cc
  after_stops (d ∷ ds) c more h = grind (arith, h, after_stops ds c more)

  -- the front and what follows it are the longest front and its rest
  pub front_longest : (cs : List ℕ) → IsLongest passes cs (front_of passes cs) (after_of passes cs)
  front_longest cs = grind (arith, front_after passes, front_passes, after_stops)

  abbrev Stops : List ℕ → Type 0
  Stops rest = (c : ℕ) (more : List ℕ) → rest ≡ c ∷ more → IsFalse (passes c)

  front_stops : (rest : List ℕ) → Stops rest
      → (front_of passes rest ≡ []) × (after_of passes rest ≡ rest)
  front_stops [] h = (refl, refl)
  front_stops (c ∷ cs) h = rw (h c cs refl) (refl, refl)

  front_then :
      (front rest : List ℕ) → All (λ c. IsTrue (passes c)) front → Stops rest
      → (front_of passes (front ++ rest) ≡ front) × (after_of passes (front ++ rest) ≡ rest)
  front_then [] rest h k = front_stops rest k
  front_then (c ∷ cs) rest h k =
      let more = front_then cs rest (All-tail (λ c. IsTrue (passes c)) c cs h) k in
      rw (All-head (λ c. IsTrue (passes c)) c cs h, more.0, more.1) (refl, refl)

  -- there is only one longest front
  pub longest_front :
      (text front rest : List ℕ) → IsLongest passes text front rest
      → (front_of passes text ≡ front) × (after_of passes text ≡ rest)
  longest_front text front rest h = rw h.split (front_then front rest h.pass h.stops)
