-- The marks of a block, computed lane by lane, and how far a block is plain.
use Rattle.std.proofs.Common.{◌≡◌, ℕ, ◌^◌, ◌%◌, ◌≤◌, ◌<◌, ◌+◌, Bool, true, not, List, [], ◌∷◌, map}
use Rattle.std.proofs.Common.{length, get_or, replicate, arith, refl, ap, ap₂, ◌∙◌, subst, cond}
use Rattle.std.proofs.Common.{eqb, ltb, leb, bit_or, inl, inr}
use Rattle.std.proofs.lemmas.Simd.{zip2_of_maps, zip2_splat, splat_is_map, mask_l-mod}
use Rattle.std.proofs.lemmas.Simd.{run_in_chunk_fails, run_in_chunk_stops}
use Rattle.std.proofs.lemmas.{Bool.agree_below, Bool.agree_below_at, Bool.cases_lt, List.length-map}
use Rattle.std.specs.List.{prefix_len}
use lib.Lanes.{Each1, zip2, mask_l, top, chunk}
use mir.{Syntax.w8, Val.Fits}
use Rattle.interpolator_escapes.specs.Search.{may_begin_escaped, ArePlain}
use Rattle.interpolator_escapes.specs.declared.escape.Escape.{Escape}

-- ---- lanes

abbrev pub equal : ℕ → ℕ → ℕ
equal a b = cond (eqb a b) 255 0

abbrev pub below : ℕ → ℕ → ℕ
below a b = cond (ltb a b) 255 0

abbrev pub at_most : ℕ → ℕ → ℕ
at_most a b = cond (leb a b) 255 0

-- a comparison with a byte, after an operation with another
pub changed : (compare change : ℕ → ℕ → ℕ) (v : List ℕ) (other byte : ℕ) → length v ≡ 16
    → zip2 compare (zip2 change v (replicate 16 other)) (replicate 16 byte)
    ≡ map (λ x. compare (change x other) byte) v
changed compare change v other byte long =
    zip2_of_maps compare (λ x. change x other) (λ _. byte) v (zip2_splat change v 16 other long)
    (splat_is_map v 16 byte long)

pub either : (f g : ℕ → ℕ) (v : List ℕ) {a b : List ℕ} → a ≡ map f v → b ≡ map g v
    → zip2 bit_or a b ≡ map (λ x. bit_or (f x) (g x)) v
either f g v p q = zip2_of_maps bit_or f g v p q

each_lane : (f : ℕ → ℕ) (p : ℕ → Bool) → agree_below (λ x. top 7 (f x)) p 256 ≡ true
    → (v : List ℕ) → Each1 (Fits w8) v → map (top 7) (map f v) ≡ map p v
each_lane f p all [] fits = refl
each_lane f p all (x ∷ xs) fits =
    ap₂ (λ a b. a ∷ b) (agree_below_at (λ y. top 7 (f y)) p 256 x all fits.0.fits)
    (each_lane f p all xs fits.1)

-- marks that were computed lane by lane are those of a test that agrees for each byte
pub marks_are : (f : ℕ → ℕ) (p : ℕ → Bool) (v lanes : List ℕ) → length v ≡ 16
    → Each1 (Fits w8) v → lanes ≡ map f v → agree_below (λ x. top 7 (f x)) p 256 ≡ true
    → mask_l (map (top 7) lanes) % 2 ^ 64 ≡ mask_l (map p v)
marks_are f p v lanes long fits e all =
    ap (λ l. mask_l l % 2 ^ 64) (ap (map (top 7)) e ∙ each_lane f p all v fits)
    ∙ mask_l-mod (map p v) 64 (omega (arith, length-map v p))

-- ---- the front of a block

-- the front of a block has so many bytes
abbrev pub IsFront : Escape → List ℕ → (from front : ℕ) → Type 0
IsFront escape bytes from front =
    front ≡ prefix_len (λ byte. not (may_begin_escaped escape byte)) (chunk from 16 bytes)

-- what is plain goes on to its end
pub front_plain_past : (escape : Escape) (bytes : List ℕ) (from front : ℕ)
    → from + 16 ≤ length bytes → IsFront escape bytes from front → ArePlain escape bytes from
    → ArePlain escape bytes (from + front)
front_plain_past escape bytes from front room counted plain k l =
    elim (cases_lt k from) [
      | inl before ↦ plain k before
      | inr after ↦
          run_in_chunk_fails (may_begin_escaped escape) bytes from 16 front 0 room counted k
          after l
    ]

-- and through the block, if its front is the whole
pub whole_plain : (escape : Escape) (bytes : List ℕ) (from front : ℕ)
    → from + 16 ≤ length bytes → IsFront escape bytes from front → 16 ≤ front
    → ArePlain escape bytes from → ArePlain escape bytes (from + 16)
whole_plain escape bytes from front room counted full plain k l =
    front_plain_past escape bytes from front room counted plain k (omega arith)

-- and stops there
pub front_stops : (escape : Escape) (bytes : List ℕ) (front : ℕ)
    → 16 ≤ length bytes → IsFront escape bytes 0 front → front < 16
    → may_begin_escaped escape (get_or bytes front 0) ≡ true
front_stops escape bytes front room counted less =
    let start : 0 + front ≡ front = omega arith in
    subst (λ k. may_begin_escaped escape (get_or bytes k 0) ≡ true) start
    (run_in_chunk_stops (may_begin_escaped escape) bytes 0 16 front 0 (omega arith) counted less)

-- a front at the beginning
pub near_plain : (escape : Escape) (bytes : List ℕ) (front : ℕ)
    → 16 ≤ length bytes → IsFront escape bytes 0 front → ArePlain escape bytes front
near_plain escape bytes front room counted k l =
    front_plain_past escape bytes 0 front (omega arith) counted (λ j less. absurd (omega arith)) k
    (omega arith)

-- a whole block at the beginning
pub near_whole : (escape : Escape) (bytes : List ℕ) (front : ℕ)
    → 16 ≤ length bytes → IsFront escape bytes 0 front → 16 ≤ front → ArePlain escape bytes 16
near_whole escape bytes front room counted full k l =
    near_plain escape bytes front room counted k (omega arith)
