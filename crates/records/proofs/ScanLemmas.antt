-- The first byte of a text that is one of some.
use Rattle.std.proofs.Common.{◌≡◌, ◌≢◌, ◌⊎◌, ℕ, ◌+◌, ◌<◌, suc, Bool, true, List, [], ◌∷◌, ◌++◌}
use Rattle.std.proofs.Common.{length, get_or, take, drop, arith, refl, inl, eqb-true, Option, None}
use Rattle.std.proofs.Common.{MatchOption, append_assoc, length-append, IsCharBoundary, IsUtf8}
use Rattle.std.proofs.Common.{Some, slice_get, position, unwrap_or}
use Rattle.std.proofs.lemmas.Str.{IsCharBoundary-after_ascii, IsUtf8-past_char, encode_ascii}
use Rattle.std.proofs.lemmas.Str.{IsCharBoundary-before_ascii, IsUtf8-drop}
use Rattle.std.proofs.{lemmas.Bool.cond_both, lemmas.List.Sums.prefix_len-le-length}
use Rattle.std.specs.{Borrow.Bor, List.position_or_len}
use Rattle.records.specs.Spellings.{AreBlanks, IsPlain, doubled, stops}
use Rattle.records.specs.declared.separator.Separator.TheVariants.{Comma, Semicolon, Tab}
use Rattle.records.specs.{Marks.quote, Scans.IsStopped, declared.separator.Separator.Separator}

-- blanks, and one more, are blanks
more : (blanks : List ℕ) → AreBlanks blanks → AreBlanks (blanks ++ (32 ∷ []))
more [] are = (refl, tt)
more (b ∷ bs) are = (are.0, more bs are.1)

pub first_or_all : (test : ℕ → Bool) (bs : List ℕ)
    → unwrap_or (position test bs) (length bs) ≡ position_or_len test bs
first_or_all test bs = grind (arith, prefix_len-le-length)

pub boundary_after : (bs : List ℕ) (b : ℕ) → slice_get bs 0 ≡ Some b → b < 128 → IsUtf8 bs
    → IsCharBoundary bs 1
boundary_after [] b e low u = absurd (cc)
boundary_after (x ∷ xs) b e low u =
    let same : x ≡ b = cc in IsCharBoundary-after_ascii (x ∷ xs) 0 u (omega arith) (omega arith)

first_behind : (front rest : List ℕ) (b : ℕ) → get_or (front ++ (b ∷ rest)) (length front) 0 ≡ b
first_behind [] rest b = refl
first_behind (x ∷ front) rest b = first_behind front rest b

drop_front : (front rest : List ℕ) → drop (length front) (front ++ rest) ≡ rest
drop_front [] rest = refl
drop_front (x ∷ front) rest = drop_front front rest

-- what comes behind a front of a text is text, if it begins with a character below 128
seam_text : (text front rest : List ℕ) (b : ℕ) → IsUtf8 text → text ≡ front ++ (b ∷ rest)
    → b < 128 → IsUtf8 (b ∷ rest)
seam_text text front rest b u e low =
    let here = drop_front front (b ∷ rest) in
    let at : get_or text (length front) 0 ≡ b = rw e (first_behind front rest b) in
    rw (← here, ← e) (IsUtf8-drop text (length front) u
    (IsCharBoundary-before_ascii text (length front) (rw e (grind (arith, length-append)))
    (omega arith)))

-- and so is what comes after that character
pub utf8_after : (text rest : List ℕ) (b : ℕ) → IsUtf8 text → text ≡ b ∷ rest → b < 128
    → IsUtf8 rest
utf8_after text rest b u e low = IsUtf8-past_char text rest b u (grind (arith, encode_ascii b low))

pub utf8_behind : (text front rest : List ℕ) (b : ℕ) → IsUtf8 text → text ≡ front ++ (b ∷ rest)
    → b < 128 → IsUtf8 rest
utf8_behind text front rest b u e low =
    utf8_after (b ∷ rest) rest b (seam_text text front rest b u e low) refl low

-- blanks, and one more
pub one_more_blank : (text rest after : List ℕ)
    → (blanks : List ℕ) × AreBlanks blanks × (text ≡ blanks ++ rest)
    → rest ≡ 32 ∷ after → (blanks : List ℕ) × AreBlanks blanks × (text ≡ blanks ++ after)
one_more_blank text rest after (blanks, are, is) e =
    (blanks ++ (32 ∷ []), more blanks are, grind (arith, append_assoc))

-- a byte that stops a field is a character
low : (separator : Separator) (b : ℕ) → stops separator b ≡ true → b < 128
low Comma b h = grind (arith, eqb-true, cond_both)
low Semicolon b h = grind (arith, eqb-true, cond_both)
low Tab b h = grind (arith, eqb-true, cond_both)

module _ (separator : Separator) where
  one_more : (n : ℕ) → 1 + n ≡ suc n
  one_more n = omega arith

  take_one : (n b : ℕ) (bs : List ℕ) → take (1 + n) (b ∷ bs) ≡ b ∷ take n bs
  take_one n b bs = grind (arith, one_more)

  drop_one : (n b : ℕ) (bs : List ℕ) → drop (1 + n) (b ∷ bs) ≡ drop n bs
  drop_one n b bs = grind (arith, one_more)

  -- the cut is at the end, or before a character below 128
  abbrev Cuts : ℕ → List ℕ → Type 0
  Cuts n bs = (n ≡ length bs) ⊎ ((n < length bs) × (get_or bs n 0 < 128))

  cuts : (bs : List ℕ) → Cuts (position_or_len (stops separator) bs) bs
  cuts [] = inl refl
  cuts (b ∷ bs) = grind (arith, cond_both, one_more, low, cuts bs)

  pub plain_boundary : (bs : List ℕ)
      → IsCharBoundary bs (position_or_len (stops separator) bs)
  plain_boundary bs = grind (arith, cuts)

  pub plain_front : (bs : List ℕ)
      → IsPlain separator (take (position_or_len (stops separator) bs) bs)
  plain_front [] = tt
  plain_front (b ∷ bs) = grind (arith, take_one, plain_front bs)

  pub plain_stop : (bs : List ℕ)
      → IsStopped separator (drop (position_or_len (stops separator) bs) bs)
  plain_stop [] = tt
  plain_stop (b ∷ bs) = grind (arith, drop_one, plain_stop bs)

-- a text without quotes is itself when its quotes are doubled
pub doubled_same : (bs : List ℕ) → ((i : ℕ) → i < length bs → get_or bs i 0 ≢ quote)
    → doubled bs ≡ bs
doubled_same [] none = refl
doubled_same (b ∷ bs) none =
    let here : b ≢ quote = none 0 (omega arith) in
    let more = doubled_same bs (λ i h. none (suc i) (omega arith)) in
    grind (arith, eqb-true, more)

-- what is before and after the first quote
pub at_quote : (text : List ℕ) (r : Option (Bor (List ℕ) × Bor (List ℕ)))
    → MatchOption r ((i : ℕ) → i < length text → get_or text i 0 ≢ quote)
    (λ x. (text ≡ x.0.now ++ (quote ∷ x.1.now))
    × ((i : ℕ) → i < length x.0.now → get_or x.0.now i 0 ≢ quote))
    → MatchOption r (doubled text ≡ text)
    (λ x. (text ≡ x.0.now ++ (quote ∷ x.1.now)) × (doubled x.0.now ≡ x.0.now))
at_quote text None none = doubled_same text none
at_quote text (Some x) (is, none) = (is, doubled_same x.0.now none)
