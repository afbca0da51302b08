-- Names that are compared by their two ends, as numbers.
use Rattle.std.specs.Int.{w16, w32, w64, from_le_bytes}
use Rattle.std.specs.{Bool.Decides, Str.bytes_eq, Prelude.slice_index}
use Rattle.std.proofs.Common.{arith, ◌≡◌, ◌≢◌, ◌∙◌, ◌⊎◌, inl, inr, ap, sym, refl, ℕ, zero, suc, ◌-◌}
use Rattle.std.proofs.Common.{◌≤◌, ◌<◌, ◌+◌, Bool, true, false, ◌==◌, ◌||◌, List, [], ◌∷◌, ◌++◌}
use Rattle.std.proofs.Common.{take, drop, length, get_or}
use Rattle.std.proofs.lemmas.List.{drop-drop, take-append-drop, length-take, length-drop}
use Rattle.std.proofs.lemmas.Nat.{le_bytes_2, le_bytes_4, le_bytes_8}
use Rattle.std.proofs.{lemmas.Bool.Decides.Decides-eqb, lemmas.Slice.Eq.bytes_eq-Decides}
use Rattle.interpolator_eval.specs.Names.{is_word_size, word}

-- what decides the same is the same
decided : {P Q : Type 0} (a b : Bool) → Decides a P → Decides b Q → (P → Q) → (Q → P) → a ≡ b
decided true true d e f g = refl
decided true false d e f g = sym (e.1 (f (d.0 refl)))
decided false true d e f g = d.1 (g (e.0 refl))
decided false false d e f g = refl

-- each number of a list is that of a byte
abbrev pub Small : List ℕ → Type 0
Small bytes = (i : ℕ) → get_or bytes i 0 < 256

small_take : (n : ℕ) (bytes : List ℕ) → Small bytes → Small (take n bytes)
small_take zero bytes small i = omega arith
small_take (suc n) [] small i = omega arith
small_take (suc n) (b ∷ bytes) small zero = small 0
small_take (suc n) (b ∷ bytes) small (suc i) = small_take n bytes (λ j. small (suc j)) i

small_drop : (n : ℕ) (bytes : List ℕ) → Small bytes → Small (drop n bytes)
small_drop zero bytes small i = small i
small_drop (suc n) [] small i = omega arith
small_drop (suc n) (b ∷ bytes) small i = small_drop n bytes (λ j. small (suc j)) i

-- the sizes
sized : (n : ℕ) → is_word_size n ≡ true → (n ≡ 1) ⊎ ((n ≡ 2) ⊎ ((n ≡ 4) ⊎ (n ≡ 8)))
sized n = by (n == 1) (n == 2) (n == 4) (n == 8)
    (Decides-eqb n 1) (Decides-eqb n 2) (Decides-eqb n 4) (Decides-eqb n 8)
  where
    by : (a b c d : Bool) → Decides a (n ≡ 1) → Decides b (n ≡ 2) → Decides c (n ≡ 4)
        → Decides d (n ≡ 8) → (a || (b || (c || d))) ≡ true
        → (n ≡ 1) ⊎ ((n ≡ 2) ⊎ ((n ≡ 4) ⊎ (n ≡ 8)))
    by true b c d one two four eight is = inl (one.0 refl)
    by false true c d one two four eight is = inr (inl (two.0 refl))
    by false false true d one two four eight is = inr (inr (inl (four.0 refl)))
    by false false false true one two four eight is = inr (inr (inr (eight.0 refl)))
    by false false false false one two four eight is = inl (one.0 is)

same_byte : (a b : List ℕ) → length a ≡ 1 → length b ≡ 1 → slice_index a 0 ≡ slice_index b 0 → a ≡ b
same_byte [] b of_a of_b is = absurd (omega (arith, of_a))
same_byte (x ∷ y ∷ a) b of_a of_b is = absurd (omega (arith, of_a))
same_byte (x ∷ []) [] of_a of_b is = absurd (omega (arith, of_b))
same_byte (x ∷ []) (y ∷ z ∷ b) of_a of_b is = absurd (omega (arith, of_b))
same_byte (x ∷ []) (y ∷ []) of_a of_b is = ap (λ z. z ∷ []) is

-- the same number is of the same bytes
module _ (a b : List ℕ) (small_a : Small a) (small_b : Small b) where
  same_bytes : (n : ℕ) → is_word_size n ≡ true → length a ≡ n → length b ≡ n
      → word n a ≡ word n b → a ≡ b
  same_bytes n size of_a of_b is = by (sized n size)
    where
      at : (m : ℕ) → n ≡ m → word m a ≡ word m b
      at m e = sym (ap (λ k. word k a) e) ∙ is ∙ ap (λ k. word k b) e

      by : (n ≡ 1) ⊎ ((n ≡ 2) ⊎ ((n ≡ 4) ⊎ (n ≡ 8))) → a ≡ b
      by (inl e) = same_byte a b (of_a ∙ e) (of_b ∙ e) (at 1 e)
      by (inr (inl e)) =
          sym (le_bytes_2 a (from_le_bytes w16 a) (of_a ∙ e) small_a refl)
          ∙ le_bytes_2 b (from_le_bytes w16 a) (of_b ∙ e) small_b (at 2 e)
      by (inr (inr (inl e))) =
          sym (le_bytes_4 a (from_le_bytes w32 a) (of_a ∙ e) small_a refl)
          ∙ le_bytes_4 b (from_le_bytes w32 a) (of_b ∙ e) small_b (at 4 e)
      by (inr (inr (inr e))) =
          sym (le_bytes_8 a (from_le_bytes w64 a) (of_a ∙ e) small_a refl)
          ∙ le_bytes_8 b (from_le_bytes w64 a) (of_b ∙ e) small_b (at 8 e)

-- two texts are the same if they have the same ends, which overlap
module _ (n rest : ℕ) (own name : List ℕ) (over : rest ≤ n) where
  back_is : (xs : List ℕ) → drop n xs ≡ drop (n - rest) (drop rest xs)
  back_is xs =
      let at : n ≡ rest + (n - rest) = omega (arith, over) in
      ap (λ k. drop k xs) at ∙ sym (drop-drop (n - rest) rest xs)

  whole : take n own ≡ take n name → drop rest own ≡ drop rest name → own ≡ name
  whole front back =
      sym (take-append-drop n own)
      ∙ ap (λ xs. xs ++ drop n own) front
      ∙ ap (λ xs. take n name ++ xs) (back_is own ∙ ap (drop (n - rest)) back ∙ sym (back_is name))
      ∙ take-append-drop n name

  -- the numbers of the ends tell whether the names are the same
  module _ (size : is_word_size n ≡ true) (small_own : Small own) (small_name : Small name)
      (as_long : length own ≡ length name) (least : n ≤ length name)
      (at : rest ≡ length name - n) where
    long_front : (xs : List ℕ) → length xs ≡ length name → length (take n xs) ≡ n
    long_front xs of_xs = grind (arith, length-take n xs)

    long_back : (xs : List ℕ) → length xs ≡ length name → length (drop rest xs) ≡ n
    long_back xs of_xs = grind (arith, length-drop rest xs)

    module _ (front own_front : ℕ) (is_front : front ≡ word n (take n name))
        (is_own_front : own_front ≡ word n (take n own)) where
      pub by_ends : (back own_back : ℕ)
          → back ≡ word n (drop rest name) → own_back ≡ word n (drop rest own)
          → own_front ≡ front → (own_back == back) ≡ bytes_eq name own
      by_ends back own_back is_back is_own_back same =
          let fronts : take n own ≡ take n name =
          same_bytes (take n own) (take n name) (small_take n own small_own)
          (small_take n name small_name) n size (long_front own as_long) (long_front name refl)
          (sym is_own_front ∙ same ∙ is_front) in
          decided (own_back == back) (bytes_eq name own)
          (Decides-eqb own_back back) (bytes_eq-Decides name own)
          (λ same_back. sym (whole fronts
          (same_bytes (drop rest own) (drop rest name) (small_drop rest own small_own)
          (small_drop rest name small_name) n size (long_back own as_long) (long_back name refl)
          (sym is_own_back ∙ same_back ∙ is_back))))
          (λ same_all. is_own_back ∙ ap (λ xs. word n (drop rest xs)) (sym same_all) ∙ sym is_back)

      pub by_fronts : own_front ≢ front → (own_front == front) ≡ bytes_eq name own
      by_fronts differ =
          decided (own_front == front) (bytes_eq name own)
          (Decides-eqb own_front front) (bytes_eq-Decides name own)
          (λ same. absurd (differ same))
          (λ same_all. is_own_front ∙ ap (λ xs. word n (take n xs)) (sym same_all) ∙ sym is_front)
