-- What is told of what was written, and of a whole text.
use Rattle.std.specs.Prelude.{IsSomeAnd, MatchOption, ◌++◌, ◌+◌, if◌then◌else◌}
use Rattle.std.specs.Prelude.{encode_utf8, encode_utf8_all, Ok, Err}
use Rattle.std.specs.{Str.chars, Str.is_utf8, Str.IsUtf8}
use Rattle.std.proofs.Common.{arith, ◌≡◌, inl, inr, List, [], ℕ, Option, None, Some, option_map}
use Rattle.std.proofs.Common.{Bool, true, false, map, Result, length, ◌≤◌, ◌<◌, ap, sym, ◌∙◌}
use Rattle.std.proofs.Common.{◌⊎◌, refl, subst}
use Rattle.std.proofs.lemmas.Str.{encodes-chars}
use Rattle.interpolator_syntax.specs.Places.{text_of}
use Rattle.interpolator_syntax.specs.Faults.{Answer, Fault, fault, no_memory, answer_of}
use Rattle.interpolator_render.specs.Bounds.{BoundedText, bounded, bounded_writer}
use Rattle.interpolator_render.specs.Writers.{Written, byte_count}
use Rattle.interpolator_eval.specs.{Meaning.Meanings.Meaning, Slots.Slots}
use Rattle.interpolator_eval.specs.Meaning.Outcomes.{Finished, Outcome, Refused, WantsMemory}
use Rattle.interpolator_border.specs.Answers.{FailsBy, FormatAnswers, Means, Put, Shows}
use Rattle.interpolator_border.specs.Answers.{TellsResult}
use Rattle.interpolator_border.specs.Answers.{TellsWritten, Reported, ReportedBy, ReportedFailure}
use Rattle.interpolator_border.specs.Answers.{ReportedFault}
use Rattle.interpolator_border.specs.Answers.{row_means}
use Rattle.interpolator_border.specs.Measures.{TellsMade, TellsText, TellsWhy}
use Rattle.interpolator_border.specs.Answers.{WriteAnswers, WritesKnown, WritesRow, Wrote}
use Rattle.interpolator_border.specs.Answers.{WroteAll, WroteFull, WroteSome, text_answer}
use Rattle.interpolator_border.specs.Fields.{field_shows, field_slots, lists_lie}
use Rattle.interpolator_border.specs.declared.field.Field.{Field}
use Rattle.interpolator_border.specs.declared.answer.{Answer.Answer as Reported_answer}
use Rattle.interpolator_border.specs.declared.answer.{Failure.Failure}
use Rattle.interpolator_border.specs.declared.answer.Failure.TheVariants as failure

module _ {shows : Shows} {fields items : List Field} {format : List ℕ} where
  -- what holds of the meaning
  pub means_more : {P Q : Meaning → Type 0} → ((m : Meaning) → P m → Q m)
      → Means shows fields items format P → Means shows fields items format Q
  means_more more w = grind arith

-- once all items are known, a row is written as it is by what they stand for
pub written_known : (shows : Shows) (lie : Bool) (fields items : List Field) (format : List ℕ)
    (old new : Written) (trees : List (Slots Field)) (result : Result (Unit {0}) Failure)
    → trees ≡ map (field_slots trees) items → WritesKnown shows fields trees format old new result
    → WritesRow shows lie fields items format old new result
written_known shows lie fields items format old new trees result are wrote = grind (arith, are, wrote)

-- without a fault all is written
pub appended : (m : Meaning) (old new : Written) → Outcome m old new None
    → (m.fault ≡ None) × (new.text ≡ old.text ++ text_of m.text)
appended m old new outcome = grind (arith, outcome)

-- ---- a fault that is told

-- memory was wanted is told
pub out_of_memory : (written : ℕ) (old new : List ℕ) (answer : Reported_answer) (a : Answer)
    → a ≡ no_memory → ReportedBy a written old new answer → ReportedFault no_memory written old new answer
out_of_memory written old new answer a wants (inl reported) = reported
out_of_memory written old new answer a wants (inr reported) =
    subst (λ b. ReportedFault b written old new answer) wants reported

-- what holds of an answer that is that of a fault, holds of the fault
pub some_fault : (P : Answer → Type 0) (found : Option Fault) (a : Answer)
    → Some a ≡ option_map fault found → P a → IsSomeAnd found (λ f. P (fault f))
some_fault P found a is holds = grind (arith, is, holds)

pub if_fault : (P : Answer → Type 0) (None_holds : Type 0) (found : Option Fault) (a : Answer)
    → Some a ≡ option_map fault found → P a → MatchOption found None_holds (λ f. P (fault f))
if_fault P None_holds found a is holds = grind (arith, is, holds)

module _ (shows : Shows) (fields items : List Field) (format old new : List ℕ)
    (answer : Reported_answer) where
  -- why there is no text is told
  pub format_fails : (why : Failure) → FailsBy shows fields items format why
      → ReportedFailure why old new answer → FormatAnswers shows fields items format old new answer
  format_fails failure.NotUtf8 fails reported = inr (inr (inl (reported, fails)))
  format_fails failure.Lists fails reported = inr (inr (inr (reported, fails)))
  format_fails failure.Table fails reported = absurd fails
  format_fails (failure.Fault e) (inl wants) reported =
      inr (inl (out_of_memory 0 old new answer (answer_of e) wants reported))
  format_fails (failure.Fault e) (inr fails) reported =
      inl (
        fails.0,
        means_more (λ m is.
            if_fault (λ a. ReportedBy a 0 old new answer) _ m.fault (answer_of e) is reported) fails.1,
      )

-- ---- a text that is told

-- why a writer that did not refuse has not all of a text
why_not_all : (m : Meaning) (old new : Written) (a : Answer) → new.refused ≡ false
    → Outcome m old new (Some a) → (a ≡ no_memory) ⊎ (Some a ≡ option_map fault m.fault)
why_not_all m old new a open_yet (inl finished) = inr finished.reported
why_not_all m old new a open_yet (inr (inl refused)) = grind (arith, refused.flag)
why_not_all m old new a open_yet (inr (inr wants)) = inl (grind (arith, wants.reported))

-- why there is no text, if the writer did not refuse it
fails_by : (shows : Shows) (fields items : List Field) (format : List ℕ) (old new : Written) (why : Failure)
    → is_utf8 format ≡ true → new.refused ≡ false
    → WritesRow shows (lists_lie fields items) fields items format old new (Err why)
    → FailsBy shows fields items format why
fails_by shows fields items format old new failure.NotUtf8 is_text open_yet wrote = absurd wrote
fails_by shows fields items format old new failure.Table is_text open_yet wrote = absurd wrote
fails_by shows fields items format old new failure.Lists is_text open_yet wrote = wrote.0
fails_by shows fields items format old new (failure.Fault e) is_text open_yet (inl none) = inl none.0
fails_by shows fields items format old new (failure.Fault e) is_text open_yet (inr wrote) =
    by_cases (why_not_all _ old new (answer_of e) open_yet wrote.holds)
  where
    by_cases : (answer_of e ≡ no_memory) ⊎ (Some (answer_of e)
        ≡ option_map fault (row_means shows fields wrote.trees format).fault)
        → FailsBy shows fields items format (failure.Fault e)
    by_cases (inl none) = inl none
    by_cases (inr is) = inr (is_text, record { trees = wrote.trees; are = wrote.are; holds = is })

-- a text that was taken is told, or that memory was wanted
text_reported : (shows : Shows) (fields items : List Field) (format text old new : List ℕ)
    (answer : Reported_answer)
    → is_utf8 format ≡ true
    → Means shows fields items format (λ m. (m.fault ≡ None) × (text ≡ text_of m.text))
    → TellsText text old new answer → FormatAnswers shows fields items format old new answer
text_reported shows fields items format text old new answer is_text made (inl reported) =
    grind (arith, inl, means_more)
text_reported shows fields items format text old new answer is_text made (inr reported) = inr (inl reported)

-- what was written is told
pub formats : (shows : Shows) (fields items : List Field) (format : List ℕ) (none made : Written)
    (written : Result (Unit {0}) Failure) (old new : List ℕ) (answer : Reported_answer)
    → none.text ≡ [] → is_utf8 format ≡ true
    → WritesRow shows (lists_lie fields items) fields items format none made written
    → TellsMade made written old new answer → FormatAnswers shows fields items format old new answer
formats shows fields items format none made (Ok ok) old new answer empty is_text wrote tells =
    text_reported shows fields items format made.text old new answer is_text
    (means_more (λ m outcome. let all = appended m none made outcome in
    (all.0, all.1 ∙ ap (λ text. text ++ text_of m.text) empty)) wrote) tells
formats shows fields items format none made (Err why) old new answer empty is_text wrote tells =
    by_flag made.refused refl tells
  where
    by_flag : (refused : Bool) → made.refused ≡ refused → TellsWhy refused why old new answer
        → FormatAnswers shows fields items format old new answer
    by_flag true is reported = inr (inl reported)
    by_flag false is reported =
        format_fails shows fields items format old new answer why
        (fails_by shows fields items format none made why is_text is wrote) reported

-- ---- a room that was written

-- a new writer that has the memory for so many bytes, and takes no more
abbrev pub fresh : ℕ → Written
fresh most = record { text = []; refused = false; origin = bounded most true }

bound_by : (ready : Bool) (most bytes : ℕ) → (if ready then Some most else None) ≡ Some bytes
    → most ≡ bytes
bound_by true most bytes is = grind arith
bound_by false most bytes is = grind arith

-- a writer that began as this one has the same bound
pub bound_kept : (b : BoundedText) (bytes : ℕ) → (bounded_writer b).origin ≡ bounded bytes true
    → b.most ≡ bytes
bound_kept b bytes same = bound_by b.ready b.most bytes (ap (λ origin. origin.bound) same)

-- a new writer, by the bound that it has
pub is_fresh : (b : BoundedText) (most bytes : ℕ)
    → bounded_writer b ≡ record { text = []; refused = false; origin = bounded most true }
    → b.most ≡ most → b.most ≡ bytes → bounded_writer b ≡ fresh bytes
is_fresh b most bytes new is same = new ∙ ap fresh (sym is ∙ same)

-- each outcome keeps the origin
origin_kept : (m : Meaning) (old new : Written) (reported : Option Answer) → Outcome m old new reported
    → new.origin ≡ old.origin
origin_kept m old new reported (inl finished) = finished.all.same_origin
origin_kept m old new reported (inr (inl refused)) = refused.same_origin
origin_kept m old new reported (inr (inr wants)) = wants.begun.same_origin

-- so does a row that was written
pub row_keeps_origin : (shows : Shows) (lie : Bool) (fields items : List Field) (format : List ℕ)
    (old new : Written) (result : Result (Unit {0}) Failure)
    → WritesRow shows lie fields items format old new result
    → new.origin ≡ old.origin
row_keeps_origin shows lie fields items format old new (Ok _) wrote =
    origin_kept _ old new None wrote.holds
row_keeps_origin shows lie fields items format old new (Err failure.NotUtf8) wrote = absurd wrote
row_keeps_origin shows lie fields items format old new (Err failure.Table) wrote = absurd wrote
row_keeps_origin shows lie fields items format old new (Err failure.Lists) wrote =
    ap (λ w. w.origin) wrote.1
row_keeps_origin shows lie fields items format old new (Err (failure.Fault e)) (inl none) =
    ap (λ w. w.origin) none.1
row_keeps_origin shows lie fields items format old new (Err (failure.Fault e)) (inr wrote) =
    origin_kept _ old new (Some (answer_of e)) wrote.holds

-- what is told of all that a format means
all_reported : (bytes : ℕ) (found : Option Fault) (reported : Option Answer) (old new : List ℕ)
    (answer : Reported_answer) → reported ≡ option_map fault found
    → TellsWritten false bytes reported old new answer
    → MatchOption found ((answer ≡ text_answer bytes) × (new ≡ old))
    (λ f. ReportedBy (fault f) bytes old new answer)
all_reported bytes None reported old new answer is tells =
    subst (λ t. TellsWritten false bytes t old new answer) is tells
all_reported bytes (Some f) reported old new answer is tells =
    subst (λ t. TellsWritten false bytes t old new answer) is tells

module _ (new : Written) (made old room sentence_old sentence_new : List ℕ) (answer : Reported_answer)
    (is : chars made ≡ new.text) (utf8 : IsUtf8 made) (fits : length made ≤ length old)
    (put : Reported made old room) where
  made_is : (text : List ℕ) → new.text ≡ text → made ≡ encode_utf8_all text
  made_is text same = sym (encodes-chars made utf8) ∙ ap encode_utf8_all (is ∙ same)

  -- the text lies in the room
  put_text : (text : List ℕ) → new.text ≡ text → Put text old room
  put_text text same =
      subst (λ bytes. (length bytes ≤ length old) × Reported bytes old room) (made_is text same)
      (fits, put)

  -- what is told counts its bytes
  reported_text : (text : List ℕ) (refused : Bool) (reported : Option Answer) → new.text ≡ text
      → new.refused ≡ refused
      → TellsWritten new.refused (length made) reported sentence_old sentence_new answer
      → TellsWritten refused (byte_count text) reported sentence_old sentence_new answer
  reported_text text refused reported same flag tells =
      subst (λ r. TellsWritten r (byte_count text) reported sentence_old sentence_new answer) flag
      (subst (λ bytes. TellsWritten new.refused (length bytes) reported sentence_old sentence_new answer)
      (made_is text same) tells)

  wrote_all : (m : Meaning) (reported : Option Answer) → Finished m (fresh (length old)) new reported
      → TellsWritten new.refused (length made) reported sentence_old sentence_new answer
      → WroteAll m old room sentence_old sentence_new answer
  wrote_all m reported finished tells =
      let text = text_of m.text in record {
        put = put_text text finished.all.appended;
        tells = all_reported (byte_count text) m.fault reported sentence_old sentence_new answer
            finished.reported
            (reported_text text false reported finished.all.appended finished.all.same_flag tells);
      }

  wrote_full : (m : Meaning) (reported : Option Answer) → Refused m (fresh (length old)) new reported
      → TellsWritten new.refused (length made) reported sentence_old sentence_new answer
      → WroteFull m old room sentence_old sentence_new answer
  wrote_full m reported refused tells =
      let text = text_of refused.front in
      let full = subst (λ t. TellsWritten true (byte_count text) t sentence_old sentence_new answer)
      refused.reported (reported_text text true reported refused.appended refused.flag tells) in record {
        front = refused.front;
        c = refused.c;
        place = refused.place;
        back = refused.back;
        split = refused.split;
        put = put_text text refused.appended;
        over = subst
            (λ t. length old < byte_count t + length (encode_utf8 refused.c))
            refused.appended refused.over;
        reported = full.0;
        sentence = full.1;
      }

  wrote_some : (m : Meaning) (reported : Option Answer) → WantsMemory m (fresh (length old)) new reported
      → TellsWritten new.refused (length made) reported sentence_old sentence_new answer
      → WroteSome m old room sentence_old sentence_new answer
  wrote_some m reported wants tells =
      let text = text_of wants.front in
      let some = subst (λ t. TellsWritten false (byte_count text) t sentence_old sentence_new answer)
      wants.reported
      (reported_text text false reported wants.begun.appended wants.begun.same_flag tells) in record {
        front = wants.front;
        back = wants.back;
        split = wants.split;
        point = wants.point;
        put = put_text text wants.begun.appended;
        reported = out_of_memory (byte_count text) sentence_old sentence_new answer no_memory refl some;
      }

  -- what a row means lies in the room, up to what was told
  wrote : (reported : Option Answer)
      → TellsWritten new.refused (length made) reported sentence_old sentence_new answer
      → (m : Meaning) → Outcome m (fresh (length old)) new reported
      → Wrote m old room sentence_old sentence_new answer
  wrote reported tells m (inl finished) = inl (wrote_all m reported finished tells)
  wrote reported tells m (inr (inl refused)) = inr (inl (wrote_full m reported refused tells))
  wrote reported tells m (inr (inr wants)) = inr (inr (wrote_some m reported wants tells))

  -- nothing lies in the room
  wrote_nothing : new ≡ fresh (length old) → room ≡ old
  wrote_nothing same =
      (subst (λ bytes. Reported bytes old room) (made_is [] (ap (λ w. w.text) same)) put).1

  -- a row that was written into the room is told
  pub writes : (fields items : List Field) (format : List ℕ) (written : Result (Unit {0}) Failure)
      → is_utf8 format ≡ true
      → WritesRow field_shows (lists_lie fields items) fields items format (fresh (length old)) new written
      → TellsResult new.refused (length made) written sentence_old sentence_new answer
      → WriteAnswers fields items format old room sentence_old sentence_new answer
  writes fields items format (Ok ok) is_text row tells =
      inl (is_text, means_more (wrote None tells) row)
  writes fields items format (Err failure.NotUtf8) is_text row tells = absurd row
  writes fields items format (Err failure.Table) is_text row tells = absurd row
  writes fields items format (Err failure.Lists) is_text row tells =
      inr (inr (inr (tells, row.0)), wrote_nothing row.1)
  writes fields items format (Err (failure.Fault e)) is_text (inl none) tells =
      let same = ap (λ w. w.text) none.1 in
      let flag = ap (λ w. w.refused) none.1 in
      let reported = reported_text [] false (Some (answer_of e)) same flag tells in
      inr (
        inl (out_of_memory 0 sentence_old sentence_new answer (answer_of e) none.0 reported),
        wrote_nothing none.1,
      )
  writes fields items format (Err (failure.Fault e)) is_text (inr row) tells =
      inl (is_text, means_more (wrote (Some (answer_of e)) tells) row)
