-- The line ends at the end of a text.
use Rattle.std.proofs.Common.{◌≡◌, ℕ, ◌<◌, List, [], ◌∷◌, ◌++◌, length, arith, refl, sym, inl, inr}
use Rattle.std.proofs.Common.{append_assoc, append-nil, ap, get_or, drop, ◌∙◌}
use Rattle.records.specs.Heads.{AreLineEnds, FeedsFirst, IsEnded}
use Rattle.records.specs.{Ends.LosesLineEnd, Ends.NotLast, Marks.carriage_return, Marks.line_feed}

-- line ends were taken from the end of a text: no line feed of them has lost its carriage return
pub record HasLost (text kept : List ℕ) : Type 0 where
  pub end : List ℕ
  pub is : text ≡ kept ++ end
  pub line_ends : AreLineEnds end
  pub whole : FeedsFirst end → NotLast carriage_return kept

pub none_lost : (text : List ℕ) → HasLost text text
none_lost text = record {
  end = [];
  is = rw append-nil refl;
  line_ends = tt;
  whole = λ none. absurd none;
}

-- a list that is not empty has a last element
abbrev Snoc : List ℕ → Type 0
Snoc xs = (front : List ℕ) × (last : ℕ) × (xs ≡ front ++ (last ∷ []))

snoc : (x : ℕ) (xs : List ℕ) → Snoc (x ∷ xs)
snoc x [] = ([], x, refl)
snoc x (y ∷ xs) = let more = snoc y xs in (x ∷ more.0, more.1, ap (λ l. x ∷ l) more.2)

-- what lies between a shorter front of a text and a longer one
between : (kept front end back : List ℕ) → kept ++ end ≡ front ++ back
    → length front < length kept
    → (middle : List ℕ) × (last : ℕ) × (kept ≡ front ++ (middle ++ (last ∷ [])))
    × (back ≡ middle ++ (last ∷ end))
between [] front end back e h = absurd (omega arith)
between (k ∷ kept) [] end back e h =
    let s = snoc k kept in
    (s.0, s.1, s.2, sym e ∙ (ap (λ l. l ++ end) s.2 ∙ append_assoc (s.0) (s.1 ∷ []) end))
between (k ∷ kept) (f ∷ front) end back e h =
    let rest = between kept front end back (ap (drop 1) e) (omega arith) in
    let same : k ≡ f = ap (λ l. get_or l 0 0) e in
    let both = ap (λ l. k ∷ l) rest.2 ∙ ap (λ b. b ∷ (front ++ (rest.0 ++ (rest.1 ∷ [])))) same in
    (rest.0, rest.1, both, rest.3)

last_ends : (middle end : List ℕ) (last : ℕ) → AreLineEnds (middle ++ (last ∷ end))
    → AreLineEnds (last ∷ end)
last_ends [] end last are = are
last_ends (m ∷ middle) end last are = last_ends middle end last are.1

no_longer : (text kept front back : List ℕ) → HasLost text kept → NotLast line_feed kept
    → text ≡ front ++ back → AreLineEnds back → length front < length kept → ⊥
no_longer text kept front back lost none e are h =
    let parts = between kept front lost.end back (sym lost.is ∙ e) h in
    let ends = last_ends (parts.0) lost.end (parts.1) (rw (parts.3) at are) in
    elim ends.0 [
      | inl feed ↦ none (front ++ parts.0)
          (rw (append_assoc front (parts.0) (line_feed ∷ []), ← feed) (parts.2))
      | inr both ↦ lost.whole both.1 (front ++ parts.0)
          (rw (append_assoc front (parts.0) (carriage_return ∷ []), ← both.0) (parts.2))
    ]

-- where no line feed is left, all line ends were taken
pub all_lost : (text kept : List ℕ) → HasLost text kept → NotLast line_feed kept
    → IsEnded text kept
all_lost text kept lost none = record {
  end = lost.end;
  is = lost.is;
  line_ends = lost.line_ends;
  longest = λ front back e are.
      let not = no_longer text kept front back lost none e are in omega (arith, not);
}
