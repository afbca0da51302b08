-- The first byte of a text that is one of some.
use Rattle.std.proofs.Common.{◌≡◌, ◌⊎◌, ℕ, ◌+◌, ◌<◌, suc, Bool, true, List, [], ◌∷◌, length, get_or}
use Rattle.std.proofs.Common.{take, drop, arith, refl, inl, eqb-true, IsCharBoundary, IsUtf8, Some}
use Rattle.std.proofs.Common.{slice_get, position, unwrap_or}
use Rattle.std.proofs.{lemmas.Bool.cond_both, lemmas.Str.IsCharBoundary-after_ascii}
use Rattle.std.proofs.lemmas.List.Sums.{prefix_len-le-length}
use Rattle.std.specs.List.{list_all, position_or_len}
use Rattle.po.specs.Marks.{IsStopped, ends_word, is_plain, is_special}

pub first_or_all : {X : Type 0} (test : X → Bool) (bs : List X)
    → unwrap_or (position test bs) (length bs) ≡ position_or_len test bs
first_or_all test bs = grind (arith, prefix_len-le-length)

pub boundary_after : (bs : List ℕ) (b : ℕ) → slice_get bs 0 ≡ Some b → b < 128 → IsUtf8 bs
    → IsCharBoundary bs 1
boundary_after [] b e low u = absurd (cc)
boundary_after (x ∷ xs) b e low u =
    let same : x ≡ b = cc in IsCharBoundary-after_ascii (x ∷ xs) 0 u (omega arith) (omega arith)

one_more : (n : ℕ) → 1 + n ≡ suc n
one_more n = omega arith

-- the cut is at the end, or before a character below 128
abbrev Cuts : ℕ → List ℕ → Type 0
Cuts n bs = (n ≡ length bs) ⊎ ((n < length bs) × (get_or bs n 0 < 128))

special_low : (b : ℕ) → is_special b ≡ true → b < 128
special_low b h = grind (arith, eqb-true, cond_both)

special_cuts : (bs : List ℕ) → Cuts (position_or_len is_special bs) bs
special_cuts [] = inl refl
special_cuts (b ∷ bs) = grind (arith, cond_both, one_more, special_low, special_cuts bs)

pub plain_boundary : (bs : List ℕ) → IsCharBoundary bs (position_or_len is_special bs)
plain_boundary bs = grind (arith, special_cuts)

word_low : (b : ℕ) → ends_word b ≡ true → b < 128
word_low b h = grind (arith, eqb-true, cond_both)

word_cuts : (bs : List ℕ) → Cuts (position_or_len ends_word bs) bs
word_cuts [] = inl refl
word_cuts (b ∷ bs) = grind (arith, cond_both, one_more, word_low, word_cuts bs)

pub word_boundary : (bs : List ℕ) → IsCharBoundary bs (position_or_len ends_word bs)
word_boundary bs = grind (arith, word_cuts)

take_one : (n b : ℕ) (bs : List ℕ) → take (1 + n) (b ∷ bs) ≡ b ∷ take n bs
take_one n b bs = grind (arith, one_more)

drop_one : (n b : ℕ) (bs : List ℕ) → drop (1 + n) (b ∷ bs) ≡ drop n bs
drop_one n b bs = grind (arith, one_more)

pub plain_front : (bs : List ℕ)
    → list_all is_plain (take (position_or_len is_special bs) bs) ≡ true
plain_front [] = refl
plain_front (b ∷ bs) = grind (arith, take_one, plain_front bs)

pub plain_stop : (bs : List ℕ) → IsStopped (drop (position_or_len is_special bs) bs)
plain_stop [] = tt
plain_stop (b ∷ bs) = grind (arith, drop_one, plain_stop bs)
