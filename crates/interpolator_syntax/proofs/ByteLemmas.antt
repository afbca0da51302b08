-- The text up to the first of two ASCII characters, found by its bytes.
use Rattle.std.proofs.Common.{encode_utf8_all, IsCharBoundary, length-take-le, get_or-take, IfSome}
use Rattle.std.proofs.Common.{length-drop, slice_get, unwrap_or, replicate, position, eqb-true, ◌≡◌}
use Rattle.std.proofs.Common.{IsUtf8, ne_eqb, length, get_or, Option, bit_or, chars, arith, zero, ℕ}
use Rattle.std.proofs.Common.{Bool, true, cond, List, ◌++◌, take, drop, refl, ◌||◌, Some, None, suc}
use Rattle.std.proofs.Common.{◌+◌, ◌<◌, ◌≤◌, eqb, min, ◌∷◌, sym, ◌⊎◌, inl, ◌%◌, ◌^◌, map, []}
use Rattle.std.proofs.lemmas.Str.{encodes-chars, encode_ascii, chars_from_encodes, IsUtf8-take}
use Rattle.std.proofs.lemmas.Str.{length-encode, len_utf8_bounds, IsUtf8-drop}
use Rattle.std.proofs.lemmas.List.Sums.{position_or_len_is, fails_before_first, passes_at_first}
use Rattle.std.proofs.lemmas.List.Sums.{prefix_len-le-length}
use Rattle.std.proofs.lemmas.Simd.{zip2_splat, zip2_of_maps, mask_l-mod, leading_from_mask_l}
use Rattle.std.proofs.lemmas.Simd.{trailing_mask_l}
use Rattle.std.proofs.{lemmas.List.length-map, lemmas.Bool.cond_both, lemmas.Bool.cases_lt}
use Rattle.std.specs.{List.position_or_len, Prelude.⊤, Char.encode_utf8, Simd.Lanes.mask_l}
use Rattle.std.specs.{Simd.Lanes.zip2, Simd.Lanes.top, Int.Count.count_trailing_zeros}
use Rattle.interpolator_syntax.specs.Classes.{avoids, front_of, after_of}

-- ---- a block's mask

module _ (first second : ℕ) where
  abbrev IsEither : ℕ → Bool
  IsEither b = eqb b first || eqb b second

  abbrev Lane : ℕ → ℕ → ℕ
  Lane a b = cond (eqb a b) 255 0

  tops : (xs : List ℕ)
      → map (top 7) (map (λ b. bit_or (Lane b first) (Lane b second)) xs) ≡ map IsEither xs
  tops [] = refl
  tops (x ∷ xs) = grind (arith, tops xs)

  abbrev Mask : List ℕ → ℕ → ℕ
  Mask xs n =
      mask_l (map (top 7) (zip2 bit_or (zip2 Lane xs (replicate n first))
      (zip2 Lane xs (replicate n second)))) % 2 ^ 64

  mask_is : (xs : List ℕ) (n : ℕ) → length xs ≡ n → n ≤ 64 → Mask xs n ≡ mask_l (map IsEither xs)
  mask_is xs n long room =
      let lanes =
      zip2_of_maps bit_or (λ b. Lane b first) (λ b. Lane b second) xs
      (zip2_splat Lane xs n first long) (zip2_splat Lane xs n second long) in
      grind (arith, lanes, tops xs, length-map xs IsEither, mask_l-mod (map IsEither xs) 64)

  pub no_hit : (xs : List ℕ) (n : ℕ) → length xs ≡ n → n ≤ 64 → Mask xs n ≡ 0
      → n ≡ position_or_len IsEither xs
  no_hit xs n long room none = grind (arith, leading_from_mask_l, mask_is)

  pub a_hit : (xs : List ℕ) (n : ℕ) → length xs ≡ n → n ≤ 64 → ¬ (Mask xs n ≡ 0)
      → count_trailing_zeros 64 (Mask xs n) ≡ position_or_len IsEither xs
  a_hit xs n long room some = grind (arith, mask_is, trailing_mask_l)

-- the first that passes is as far from the end in the whole as in what is left of it
abbrev pub SameFirst : (ℕ → Bool) → List ℕ → List ℕ → Type 0
SameFirst test all rest =
    (length rest ≤ length all) × (position_or_len test all + length rest
    ≡ position_or_len test rest + length all)

-- past bytes that do not pass
pub drop_before : (test : ℕ → Bool) (k : ℕ) (xs : List ℕ) → k ≤ position_or_len test xs
    → position_or_len test xs ≡ k + position_or_len test (drop k xs)
drop_before test zero xs h = omega arith
drop_before test (suc k) xs h = grind (arith, drop_before test k)

take_before : (test : ℕ → Bool) (n : ℕ) (xs : List ℕ)
    → position_or_len test (take n xs) ≤ position_or_len test xs
take_before test zero xs = omega arith
take_before test (suc n) [] = omega arith
take_before test (suc n) (x ∷ xs) = grind (arith, take_before test n xs)

-- the first among n of them is in the text
pub first_within :
    (test : ℕ → Bool) (n k : ℕ) (xs : List ℕ) → n ≤ length xs
    → k ≡ position_or_len test (take n xs) → k ≤ length xs
first_within test n k xs room is =
    grind (arith, take_before test n xs, prefix_len-le-length)

less_after :
    (test : ℕ → Bool) (all rest left : List ℕ) (k : ℕ) → SameFirst test all rest
    → k ≤ position_or_len test rest → left ≡ drop k rest → SameFirst test all left
less_after test all rest left k same low e =
    grind (arith, prefix_len-le-length, length-drop, drop_before)

pub one_block_less :
    (test : ℕ → Bool) (all rest left : List ℕ) (n k : ℕ) → SameFirst test all rest
    → k ≡ position_or_len test (take n rest) → left ≡ drop k rest → SameFirst test all left
one_block_less test all rest left n k same is e = grind (arith, less_after, take_before)

-- past what was skipped behind a block without one that passes
pub past_block :
    (test : ℕ → Bool) (all behind rest : List ℕ) (n : ℕ) → n ≡ position_or_len test (take n all)
    → behind ≡ drop n all → SameFirst test behind rest → SameFirst test all rest
past_block test all behind rest n is e same =
    let past = one_block_less test all all behind n n (omega arith, refl) is e in
    omega (arith, past, same)

pub first_or_all : (test : ℕ → Bool) (bs : List ℕ)
    → unwrap_or (position test bs) (length bs) ≡ position_or_len test bs
first_or_all test bs = grind (arith, prefix_len-le-length)

pub found_nowhere : (test : ℕ → Bool) (all rest : List ℕ) → SameFirst test all rest
    → position test rest ≡ None → length all ≡ position_or_len test all
found_nowhere test all rest same e = grind (arith, prefix_len-le-length)

-- ---- every byte of a character past ASCII is past ASCII

abbrev AllHigh : List ℕ → Type 0
AllHigh [] = ⊤
AllHigh (b ∷ bs) = (128 ≤ b) × AllHigh bs

encode_high : (c : ℕ) → 128 ≤ c → AllHigh (encode_utf8 c)
unfolding encode_utf8
encode_high c h = grind arith

-- the first byte of a character is the character, or both lie past ASCII
head_high : (bs more : List ℕ) (b : ℕ) → AllHigh bs → 0 < length bs
    → slice_get (bs ++ more) 0 ≡ Some b → 128 ≤ b
head_high [] more b h n e = absurd (omega arith)
head_high (x ∷ xs) more b h n e = grind arith

pub encode_head : (c : ℕ) (more : List ℕ) (b : ℕ) → slice_get (encode_utf8 c ++ more) 0 ≡ Some b
    → min b 128 ≡ min c 128
encode_head c more b e =
    grind (arith, cases_lt, encode_ascii, len_utf8_bounds, head_high, encode_high, length-encode)

-- ---- the front by bytes is the front by characters

module _ (first second : ℕ) (low_first : first < 128) (low_second : second < 128) where
  -- a byte past ASCII is neither of the two
  avoids_high : (b : ℕ) → 128 ≤ b → avoids first second b ≡ true
  avoids_high b h = grind (arith, ne_eqb)

  over : (xs ys : List ℕ) → AllHigh xs
      → (front_of (avoids first second) (xs ++ ys) ≡ xs ++ front_of (avoids first second) ys)
      × (after_of (avoids first second) (xs ++ ys) ≡ after_of (avoids first second) ys)
  over [] ys h = (refl, refl)
  over (x ∷ xs) ys h = grind (arith, avoids_high, over xs ys h.1)

  -- one more character, by how many bytes it takes
  bytes : (cs : List ℕ)
      → (front_of (avoids first second) (encode_utf8_all cs)
      ≡ encode_utf8_all (front_of (avoids first second) cs))
      × (after_of (avoids first second) (encode_utf8_all cs)
      ≡ encode_utf8_all (after_of (avoids first second) cs))
  bytes [] = (refl, refl)
  bytes (c ∷ cs) =
      let past = over (encode_utf8 c) (encode_utf8_all cs) in
      grind (arith, cases_lt c 128, encode_ascii c, past, encode_high c, avoids_high c, bytes cs)

  abbrev Stops : ℕ → Bool
  Stops b = eqb b first || eqb b second

  one_more : (n : ℕ) → 1 + n ≡ suc n
  one_more n = omega arith

  take_one : (n b : ℕ) (bs : List ℕ) → take (1 + n) (b ∷ bs) ≡ b ∷ take n bs
  take_one n b bs = grind (arith, one_more)

  drop_one : (n b : ℕ) (bs : List ℕ) → drop (1 + n) (b ∷ bs) ≡ drop n bs
  drop_one n b bs = grind (arith, one_more)

  at_cut : (bs : List ℕ)
      → (take (position_or_len Stops bs) bs ≡ front_of (avoids first second) bs)
      × (drop (position_or_len Stops bs) bs ≡ after_of (avoids first second) bs)
  at_cut [] = (refl, refl)
  at_cut (b ∷ bs) = grind (arith, take_one, drop_one, at_cut bs)

  -- the cut is at the end, or before an ASCII character
  abbrev Cuts : ℕ → List ℕ → Type 0
  Cuts n bs = (n ≡ length bs) ⊎ ((n < length bs) × (get_or bs n 0 < 128))

  cuts : (bs : List ℕ) → Cuts (position_or_len Stops bs) bs
  cuts [] = inl refl
  cuts (b ∷ bs) = grind (arith, cond_both, one_more, eqb-true, cuts bs)

  pub cut_boundary : (bs : List ℕ) → IsCharBoundary bs (position_or_len Stops bs)
  cut_boundary bs = grind (arith, cuts)

  -- the characters of the bytes up to the cut, and from it on
  pub chars_front : (bs : List ℕ) → IsUtf8 bs
      → chars (take (position_or_len Stops bs) bs) ≡ front_of (avoids first second) (chars bs)
  chars_front bs u =
      let same = bytes (chars bs) in
      grind (arith, chars_from_encodes, IsUtf8-take, cut_boundary, same, encodes-chars, at_cut)

  pub chars_after : (bs : List ℕ) → IsUtf8 bs
      → chars (drop (position_or_len Stops bs) bs) ≡ after_of (avoids first second) (chars bs)
  chars_after bs u =
      sym (chars_from_encodes _ _ (IsUtf8-drop bs _ u (cut_boundary bs))
      (grind (arith, bytes (chars bs), encodes-chars bs u, at_cut bs)))

pub near_is :
    (test : ℕ → Bool) (bs : List ℕ) (n : ℕ) (r : Option ℕ) → n ≤ length bs
    → r ≡ position test (take n bs) → IfSome r (λ index. index ≡ position_or_len test bs)
near_is test bs n None within e = tt
near_is test bs n (Some index) within e =
    let near = take n bs in
    let first : index ≡ position_or_len test near = grind arith in
    let low : position_or_len test near < length near = grind arith in
    let here : index < n = omega (arith, length-take-le n bs within) in
    sym (position_or_len_is test bs index 0 (omega arith)
    (λ k h. grind (arith, get_or-take n bs k 0, fails_before_first test near k 0))
    (λ h. grind (arith, get_or-take n bs index 0, passes_at_first test near 0)))
