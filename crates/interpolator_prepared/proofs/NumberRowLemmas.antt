-- Rows in which the text between two items and a number lie together.
use Rattle.std.proofs.Common.{◌≡◌, ◌∙◌, refl, ap, sym, arith, ℕ, ◌+◌, ◌<◌, ◌≤◌, List, [], ◌∷◌, ◌++◌}
use Rattle.std.proofs.Common.{length, take, None, Some, IsAscii, subst}
use Rattle.std.proofs.lemmas.{List.map-append, Str.chars-append, Str.chars-IsAscii}
use Rattle.std.proofs.lemmas.Str.{IsUtf8-append, IsUtf8-from_ascii, IsUtf8-string_bytes}
use Rattle.std.specs.{Char.len_utf8, Str.chars, Str.IsUtf8}
use Rattle.interpolator_render.specs.declared.view.Trait.{Trait}
use Rattle.interpolator_render.specs.{declared.view.Spec.Spec, Views.Shown, Writers.Written}
use Rattle.interpolator_syntax.specs.Places.{placed_at, placed_from, size}
use Rattle.interpolator_syntax.specs.{Faults.Answer}
use Rattle.interpolator_syntax.proofs.CharacterLemmas.{size-chars}
use Rattle.interpolator_eval.specs.Meaning.Meanings.{text_alone}
use Rattle.interpolator_eval.specs.{Meaning.Outcomes.Outcome, Slots.Slots}
use Rattle.interpolator_eval.specs.Meaning.Sinks.{write_fault_answer}
use Rattle.interpolator_eval.specs.declared.evaluate.sink.WriteFault.{WriteFault}
use Rattle.interpolator_eval.proofs.MeaningLemmas.PlacedLemmas.{placed_from-append}
use Rattle.interpolator_prepared.specs.{NumberRows.HasDigits}
use Rattle.interpolator_prepared.specs.StoredSteps.{joined_place, joined_placed}
use Rattle.interpolator_prepared.specs.StoredSteps.{moved_fault, placed_by, row_place}
use Rattle.interpolator_prepared.specs.declared.{step.JoinedText.JoinedText, step.Part.Part}
use Rattle.interpolator_prepared.proofs.JoinedLemmas.{placed_refused, placed_written, same_places}

-- ---- the place of a byte

row_front : (ps : List Part) (long end o : ℕ) → o < long → row_place ps long end o ≡ joined_place ps o
row_front ps long end o l = grind (arith, l)

row_back : (ps : List Part) (long end o : ℕ) → long ≤ o → row_place ps long end o ≡ end
row_back ps long end o l = grind (arith, l)

-- characters that all have one place
ended_places : (f : ℕ → ℕ) (q end : ℕ) (cs : List ℕ) → ((o : ℕ) → f (q + o) ≡ end)
    → placed_by f (placed_from q cs) ≡ placed_at end cs
ended_places f q end [] h = refl
ended_places f q end (c ∷ cs) h =
    let here : f q ≡ end = grind (arith, h 0) in
    ap (λ p. (c, p) ∷ placed_by f (placed_from (q + len_utf8 c) cs)) here
    ∙ ap (λ xs. (c, end) ∷ xs) (ended_places f (q + len_utf8 c) end cs
    (λ o. grind (arith, h (len_utf8 c + o))))

module _ (ps : List Part) (bs digits : List ℕ) (end : ℕ) (utf8 : IsUtf8 bs)
    (ascii : IsAscii digits) where
  abbrev Place : ℕ → ℕ
  Place = row_place ps (length bs) end

  row_placed : placed_by Place (placed_from 0 (chars (bs ++ digits)))
      ≡ joined_placed ps bs ++ placed_at end digits
  row_placed =
      let long : size (chars bs) ≡ length bs = size-chars bs utf8 in
      let front : placed_by Place (placed_from 0 (chars bs)) ≡ joined_placed ps bs =
      same_places Place (joined_place ps) (length bs) (row_front ps (length bs) end) 0 (chars bs)
      (omega (arith, long)) in
      let back : placed_by Place (placed_from (0 + size (chars bs)) digits) ≡ placed_at end digits =
      ended_places Place (0 + size (chars bs)) end digits
      (λ o. row_back ps (length bs) end (0 + size (chars bs) + o) (omega (arith, long))) in
      ap (λ ds. placed_by Place (placed_from 0 ds))
      (chars-append bs digits utf8 ∙ ap (λ ds. chars bs ++ ds) (chars-IsAscii digits ascii))
      ∙ ap (placed_by Place) (placed_from-append 0 (chars bs) digits)
      ∙ map-append (λ y. (y.0, Place y.1)) (placed_from 0 (chars bs))
      (placed_from (0 + size (chars bs)) digits)
      ∙ ap (λ xs. xs ++ placed_by Place (placed_from (0 + size (chars bs)) digits)) front
      ∙ ap (λ xs. joined_placed ps bs ++ xs) back

  -- a row that was written, or refused
  module _ (text : List ℕ) (old new : Written) (same : text ≡ bs ++ digits) where
    pub row_writes : Outcome (text_alone (placed_from 0 (chars text))) old new None
        → Outcome (text_alone (joined_placed ps bs ++ placed_at end digits)) old new None
    row_writes o =
        subst (λ xs. Outcome (text_alone xs) old new None) row_placed
        (placed_written Place (placed_from 0 (chars (bs ++ digits))) old new (rw same at o))

    pub row_refused : (w : WriteFault) (answer : Answer) → answer ≡ moved_fault Place w
        → Outcome (text_alone (placed_from 0 (chars text))) old new (Some (write_fault_answer w))
        → Outcome (text_alone (joined_placed ps bs ++ placed_at end digits)) old new (Some answer)
    row_refused w answer reported o =
        rw reported (subst (λ xs. Outcome (text_alone xs) old new (Some (moved_fault Place w))) row_placed
        (placed_refused Place (placed_from 0 (chars (bs ++ digits))) old new w (rw same at o)))

-- ---- the characters of a row

-- the text and the digits are characters
pub row_utf8 : {X : Type 0} (shows : X → Trait → Spec → Shown) (x : JoinedText) (item : Slots X)
    (count : ℕ) (row : List ℕ) → HasDigits shows x item count row → IsUtf8 (take count row)
row_utf8 shows x item count row has =
    subst IsUtf8 (sym has.row)
    (IsUtf8-append _ _ (IsUtf8-string_bytes x.text) (IsUtf8-from_ascii _ has.ascii))
