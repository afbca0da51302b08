-- What a writer has taken that keeps a text while it fits.
use Rattle.std.proofs.Common.{◌≡◌, ◌⊎◌, ℕ, ◌+◌, ◌≤◌, ◌<◌, List, [], ◌++◌, length, append_assoc}
use Rattle.std.proofs.Common.{append-nil, arith, ap, chars, refl, subst, sym, IsUtf8}
use Rattle.std.proofs.Common.{length-append, Bool, true, Result, Ok, Err, MatchResult, inl, inr}
use Rattle.std.specs.Prelude.{◌||◌}
use Rattle.std.proofs.lemmas.Str.{chars-nil, encodes-append, encodes-chars}
use Rattle.std.proofs.lemmas.Grind.{common_steps}
use Rattle.interpolator_render.specs.Writers.{Appends, Buffered, Refuses, RefusesWhole, Written}
use Rattle.interpolator_render.specs.Writers.{as_writer, byte_count, plain}
use Rattle.interpolator_render.specs.declared.text_write.Refusal.{Refusal}
use Rattle.interpolator_render.proofs.WrittenLemmas.{refuses_all}

-- the bytes of a text are counted with those before it
pub count_more : (kept rest bytes : List ℕ) → IsUtf8 bytes
    → byte_count (kept ++ (rest ++ chars bytes)) ≡ byte_count (kept ++ rest) + length bytes
count_more kept rest bytes utf8 =
    grind (arith, encodes-append, encodes-chars, length-append, append_assoc)

-- a text that fits where nothing is left is empty
pub no_more : (left : ℕ) (bytes : List ℕ) → length bytes ≤ left → left ≡ 0 → chars bytes ≡ []
no_more left bytes fits none = grind (arith, common_steps, chars-nil)

-- so nothing was counted, or a text that fits is empty
pub one_empty : (count left : ℕ) (rest bytes : List ℕ) → (count ≡ 0 → rest ≡ [])
    → (0 < count → left ≡ 0) → length bytes ≤ left → (rest ≡ []) ⊎ (chars bytes ≡ [])
one_empty count left rest bytes whole over fits = grind (arith, no_more, inl, inr)

-- a text that is refused has some characters
some_refused : (old new : Written) (text : List ℕ) (taken : ℕ) → Refuses old text taken new
    → 0 < length text
some_refused old new text taken refuses = grind (arith, length-append)

module _ (old new : Buffered) (text : List ℕ) where
  -- what a buffer answers that takes a text whole or not at all
  abbrev Keeps : Result (Unit {0}) Refusal → Type 0
  Keeps result = MatchResult result (λ _. Appends (as_writer old) text (as_writer new))
      (λ refusal. Refuses (as_writer old) text refusal.taken (as_writer new))

  abbrev Whole : Result (Unit {0}) Refusal → Type 0
  Whole result = MatchResult result (λ _. Unit {0})
      (λ refusal. RefusesWhole (as_writer old) refusal.taken (as_writer new))

  -- an empty text changes nothing
  pub keeps_nothing : (result : Result (Unit {0}) Refusal) → Keeps result → Whole result
      → text ≡ [] → new.text ≡ old.text
  keeps_nothing (Ok _) keeps whole none = grind (arith, append-nil)
  keeps_nothing (Err refusal) keeps whole none = ap (λ w. w.text) whole.1

  module _ (rest : List ℕ) (own : Bool) where
    -- a buffer before a text that was counted
    abbrev with_rest : Buffered → Written
    with_rest b = record { text = b.text ++ rest; refused = b.refused || own; origin = plain }

    -- it takes what the buffer does
    pub keeps_before : (result : Result (Unit {0}) Refusal) → Keeps result → Whole result
        → (rest ≡ []) ⊎ (text ≡ []) → (own ≡ true → text ≡ [])
        → MatchResult result (λ _. Appends (with_rest old) text (with_rest new))
        (λ refusal. Refuses (with_rest old) text refusal.taken (with_rest new))
    keeps_before (Ok _) keeps whole empty silent = record {
      appended = grind (arith, append-nil, append_assoc);
      same_flag = grind arith;
      same_origin = refl;
      only_empty = λ set. grind arith;
    }
    keeps_before (Err refusal) keeps whole empty silent =
        let same = whole.1 in
        subst (λ taken. Refuses (with_rest old) text taken (with_rest new)) (sym whole.0)
        (refuses_all _ _ text (some_refused _ _ text _ keeps)
        (ap (λ w. w.text ++ rest) same) (ap (λ w. w.refused || own) same) refl tt)
