-- A text is read in one way.
use Rattle.std.proofs.Common.{◌≡◌, ◌≢◌, ◌∙◌, ℕ, true, List, [], ◌∷◌, ◌++◌, arith, refl, sym, ap}
use Rattle.std.proofs.Common.{drop, cond, eqb, inl, inr, append_assoc, Ok, Err}
use Rattle.std.proofs.lemmas.List.{append_cancel_right}
use Rattle.records.specs.Marks.{NotFirst, byte_of, carriage_return, line_feed}
use Rattle.records.specs.Records.{Begins, EndsLine, Opens}
use Rattle.records.specs.Tables.{AreEntries, At, Entry, Gives, Passes}
use Rattle.records.specs.declared.{fault.Fault.Fault, fault.Place.Place, fault.Problem.Problem}
use Rattle.records.specs.{Faults.Breaks, Spellings.IsSpelled, Spellings.ends_field}
use Rattle.records.specs.declared.fault.Problem.TheVariants as why
use Rattle.records.specs.declared.separator.Separator.{Separator}
use Rattle.records.specs.declared.separator.Separator.TheVariants.{Comma, Semicolon, Tab}
use Rattle.records.proofs.OnceLemmas.{Found, broken_found, field_of, has_found}

-- what was found, or nothing
abbrev found_pair : Found → List ℕ × List ℕ
found_pair (Ok pair) = pair
found_pair (Err _) = ([], [])

abbrev broken_pair : Found → Problem × List ℕ
broken_pair (Ok _) = (why.Unclosed, [])
broken_pair (Err pair) = pair

abbrev record_at : ℕ → List ℕ → At
record_at line text = record { line = line; text = text }

abbrev fault_of : Problem → Place → Fault
fault_of problem place = record { problem = problem; place = place }

module _ (separator : Separator) where
  -- ---- the last field of a record, or the one that is broken

  -- no separator follows the field that begins a text, if one does
  abbrev pub Final : List ℕ → Type 0
  Final rest = (field tail : List ℕ) → field_of separator rest ≡ Ok (field, tail)
      → NotFirst (byte_of separator) tail

  separator_ends : (rest : List ℕ) → ends_field separator (byte_of separator ∷ rest) ≡ true
  separator_ends [] = elim separator as (λ s. ends_field s (byte_of s ∷ []) ≡ true) [
    | Comma ↦ refl
    | Semicolon ↦ refl
    | Tab ↦ refl
  ]
  separator_ends (b ∷ rest) = elim separator as (λ s. ends_field s (byte_of s ∷ b ∷ rest) ≡ true) [
    | Comma ↦ refl
    | Semicolon ↦ refl
    | Tab ↦ refl
  ]

  -- the first field of some, each with a separator after it
  first_of : (text field written rest opening end : List ℕ)
      → opening ≡ written ++ (byte_of separator ∷ rest) → text ≡ opening ++ end
      → IsSpelled separator field written
      → field_of separator text ≡ Ok (field, byte_of separator ∷ (rest ++ end))
  first_of text field written rest opening end o e spelled =
      has_found separator text field (byte_of separator ∷ (rest ++ end)) (
        written,
        rw (e, o) (append_assoc written (byte_of separator ∷ rest) end),
        spelled,
        separator_ends (rest ++ end),
      )

  -- two ways to open a text end at the same place, if none of them could go on there
  same_opening : (before others : List (List ℕ)) (text opening start rest end : List ℕ)
      → Opens separator before opening → Opens separator others start
      → text ≡ opening ++ rest → text ≡ start ++ end → Final rest → Final end
      → (before ≡ others) × (rest ≡ end)
  same_opening [] [] text opening start rest end o s e f one two =
      let here : text ≡ rest = e ∙ rw o refl in
      let there : text ≡ end = f ∙ rw s refl in
      (refl, sym here ∙ there)
  same_opening [] (g ∷ others) text opening start rest end o (w, r, is, spelled, more) e f one two =
      let here : text ≡ rest = e ∙ rw o refl in
      absurd (one g (byte_of separator ∷ (r ++ end))
      (rw here at (first_of text g w r start end is f spelled)) refl)
  same_opening (g ∷ before) [] text opening start rest end (w, r, is, spelled, more) s e f one two =
      let here : text ≡ end = f ∙ rw s refl in
      absurd (two g (byte_of separator ∷ (r ++ rest))
      (rw here at (first_of text g w r opening rest is e spelled)) refl)
  same_opening (g ∷ before) (h ∷ others) text opening start rest end
      (w, r, is, spelled, more) (v, q, are, spelt, rests) e f one two =
      let first = first_of text g w r opening rest is e spelled in
      let second = first_of text h v q start end are f spelt in
      let both = ap found_pair (sym first ∙ second) in
      let same : g ≡ h = ap (λ (p : List ℕ × List ℕ). p.0) both in
      let tails : r ++ rest ≡ q ++ end = ap (λ (p : List ℕ × List ℕ). drop 1 p.1) both in
      let after = same_opening before others (r ++ rest) r q rest end more rests refl tails one two
      in (rw (same, after.0) refl, after.1)

  -- ---- what comes after a record

  abbrev line_rest : List ℕ → List ℕ
  line_rest [] = []
  line_rest (b ∷ bs) = cond (eqb b line_feed) bs (drop 1 bs)

  feed_ends : (rest : List ℕ) → (ends_field separator (line_feed ∷ rest) ≡ true)
      × (line_feed ≢ byte_of separator)
  feed_ends [] = elim separator as (λ s. (ends_field s (line_feed ∷ []) ≡ true)
      × (line_feed ≢ byte_of s)) [
        | Comma ↦ (refl, λ e. absurd (omega (arith, e)))
        | Semicolon ↦ (refl, λ e. absurd (omega (arith, e)))
        | Tab ↦ (refl, λ e. absurd (omega (arith, e)))
      ]
  feed_ends (b ∷ rest) = elim separator as (λ s. (ends_field s (line_feed ∷ b ∷ rest) ≡ true)
      × (line_feed ≢ byte_of s)) [
        | Comma ↦ (refl, λ e. absurd (omega (arith, e)))
        | Semicolon ↦ (refl, λ e. absurd (omega (arith, e)))
        | Tab ↦ (refl, λ e. absurd (omega (arith, e)))
      ]

  both_end : (rest : List ℕ)
      → (ends_field separator (carriage_return ∷ line_feed ∷ rest) ≡ true)
      × (carriage_return ≢ byte_of separator)
  both_end rest = elim separator as (λ s.
      (ends_field s (carriage_return ∷ line_feed ∷ rest) ≡ true)
      × (carriage_return ≢ byte_of s)) [
        | Comma ↦ (refl, λ e. absurd (omega (arith, e)))
        | Semicolon ↦ (refl, λ e. absurd (omega (arith, e)))
        | Tab ↦ (refl, λ e. absurd (omega (arith, e)))
      ]

  line_ends : (tail rest : List ℕ) → EndsLine tail rest
      → (ends_field separator tail ≡ true) × NotFirst (byte_of separator) tail
      × (line_rest tail ≡ rest)
  line_ends tail rest (inl (is, none)) = rw (is, none) (refl, tt, refl)
  line_ends tail rest (inr (inl is)) =
      rw is ((feed_ends rest).0, (feed_ends rest).1, refl)
  line_ends tail rest (inr (inr is)) = rw is ((both_end rest).0, (both_end rest).1, refl)

  -- ---- the end of a record, and a fault

  module _ (fields : List (List ℕ)) (text rest : List ℕ) (b : Begins separator fields text rest)
    where
      abbrev last_rest : List ℕ
      last_rest = b.spells.written ++ b.tail

      begins_at : text ≡ b.spells.opening ++ last_rest
      begins_at = b.is
          ∙ rw (b.spells.is) (append_assoc b.spells.opening b.spells.written b.tail)

      last_found : field_of separator last_rest ≡ Ok (b.spells.last, b.tail)
      last_found = has_found separator last_rest b.spells.last b.tail
          (b.spells.written, refl, b.spells.ends, (line_ends b.tail rest b.ends).0)

      last_final : Final last_rest
      last_final field tail found =
          let same = ap found_pair (sym last_found ∙ found) in
          let tails : b.tail ≡ tail = ap (λ (p : List ℕ × List ℕ). p.1) same in
          rw tails at ((line_ends b.tail rest b.ends).1)

  module _ (problem : Problem) (text tail : List ℕ) (b : Breaks separator problem text tail) where
    abbrev broken_rest : List ℕ
    broken_rest = b.front ++ tail

    none_found : field_of separator broken_rest ≡ Err (problem, tail)
    none_found = broken_found separator problem b.front tail b.broken

    broken_final : Final broken_rest
    broken_final field rest found = absurd (let both = sym none_found ∙ found in cc)

  pub begins_once : (fields others : List (List ℕ)) (text rest end : List ℕ)
      → Begins separator fields text rest → Begins separator others text end
      → (fields ≡ others) × (rest ≡ end)
  begins_once fields others text rest end b c =
      let same = same_opening b.spells.before c.spells.before text b.spells.opening
      c.spells.opening (last_rest fields text rest b) (last_rest others text end c)
      b.spells.opens c.spells.opens (begins_at fields text rest b) (begins_at others text end c)
      (last_final fields text rest b) (last_final others text end c) in
      let found = ap found_pair (sym (last_found fields text rest b)
      ∙ (ap (field_of separator) same.1 ∙ last_found others text end c)) in
      let last : b.spells.last ≡ c.spells.last = ap (λ (p : List ℕ × List ℕ). p.0) found in
      let tail : b.tail ≡ c.tail = ap (λ (p : List ℕ × List ℕ). p.1) found in (
        b.spells.all ∙ (rw (same.0, last) (sym c.spells.all)),
        sym (line_ends b.tail rest b.ends).2
            ∙ (ap line_rest tail ∙ (line_ends c.tail end c.ends).2),
      )

  pub never_both : (fields : List (List ℕ)) (problem : Problem) (text rest tail : List ℕ)
      → Begins separator fields text rest → Breaks separator problem text tail → ⊥
  never_both fields problem text rest tail b c =
      let same = same_opening b.spells.before c.before text b.spells.opening
      c.opening (last_rest fields text rest b) (broken_rest problem text tail c)
      b.spells.opens c.opens (begins_at fields text rest b) c.is
      (last_final fields text rest b) (broken_final problem text tail c) in
      let both = sym (last_found fields text rest b)
      ∙ (ap (field_of separator) same.1 ∙ none_found problem text tail c) in
      absurd (cc)

  pub breaks_once : (problem other : Problem) (text tail end : List ℕ)
      → Breaks separator problem text tail → Breaks separator other text end
      → (problem ≡ other) × (tail ≡ end)
  breaks_once problem other text tail end b c =
      let same = same_opening b.before c.before text b.opening c.opening
      (broken_rest problem text tail b) (broken_rest other text end c)
      b.opens c.opens b.is c.is (broken_final problem text tail b) (broken_final other text end c) in
      let both = ap broken_pair (sym (none_found problem text tail b)
      ∙ (ap (field_of separator) same.1 ∙ none_found other text end c)) in
      (ap (λ (p : Problem × List ℕ). p.0) both, ap (λ (p : Problem × List ℕ). p.1) both)

  -- ---- a whole table

  empty_record : Begins separator ([] ∷ []) [] []
  empty_record = record {
    written = [];
    tail = [];
    is = refl;
    spells = record {
      before = [];
      last = [];
      all = refl;
      opening = [];
      written = [];
      is = refl;
      opens = refl;
      ends = inl (tt, refl);
    };
    ends = inl (refl, refl);
  }

  same_at : (line other : ℕ) (text rest : List ℕ) → line ≡ other → text ≡ rest
      → record_at line text ≡ record_at other rest
  same_at line other text rest e f = rw (e, f) refl

  same_front : (from to end : At) (front start : List ℕ) → Passes front from to
      → Passes start from end → to.text ≡ end.text → to ≡ end
  same_front from to end front start one two e =
      let fronts = append_cancel_right front start end.text
      (rw e at (sym one.is) ∙ two.is) in
      same_at to.line end.line to.text end.text
      (one.counted ∙ (rw fronts (sym two.counted))) e

  same_fault : (problem other : Problem) (place there : Place) → problem ≡ other → place ≡ there
      → fault_of problem place ≡ fault_of other there
  same_fault problem other place there e f = rw (e, f) refl

  gives_once : (entry other : Entry) (from to end : At) → Gives separator entry from to
      → Gives separator other from end → (entry ≡ other) × (to ≡ end)
  gives_once (Ok (line, fields)) (Ok (number, others)) from to end (e, one) (f, two) =
      let once = begins_once fields others from.text to.text end.text one.begins two.begins in
      let lines : line ≡ number = e ∙ sym f in (
        rw (lines, once.0) refl,
        same_front from to end one.front two.front one.passes two.passes
            once.1,
      )
  gives_once (Ok (line, fields)) (Err fault) from to end (e, one) two =
      absurd (never_both fields fault.problem from.text to.text two.tail one.begins two.breaks)
  gives_once (Err fault) (Ok (line, fields)) from to end one (e, two) =
      absurd (never_both fields fault.problem from.text end.text one.tail two.begins one.breaks)
  gives_once (Err fault) (Err other) from to end one two =
      let once = breaks_once fault.problem other.problem from.text one.tail two.tail one.breaks
      two.breaks in
      let fronts = append_cancel_right one.before two.before two.tail
      (rw (once.1) at (sym one.is) ∙ two.is) in
      let places : fault.place ≡ other.place = one.placed ∙ rw fronts (sym two.placed) in
      let texts : to.text ≡ end.text = one.goes_on ∙ rw (once.0, once.1) (sym two.goes_on) in (
        ap Err (same_fault fault.problem other.problem fault.place other.place once.0 places),
        same_front from to end one.front two.front one.passes two.passes texts,
      )

  never_empty : (entry : Entry) (from to : At) → Gives separator entry from to
      → from.text ≡ [] → ⊥
  never_empty (Ok (line, fields)) from to (e, one) none = one.some none
  never_empty (Err fault) from to one none =
      never_both ([] ∷ []) fault.problem [] [] one.tail empty_record (rw none at one.breaks)

  pub entries_once : (from : At) (entries others : List Entry) → AreEntries separator entries from
      → AreEntries separator others from → entries ≡ others
  entries_once from [] [] one two = refl
  entries_once from [] (other ∷ others) one (end, first, two) =
      absurd (never_empty other from end first one)
  entries_once from (entry ∷ entries) [] (to, first, one) two =
      absurd (never_empty entry from to first two)
  entries_once from (entry ∷ entries) (other ∷ others) (to, first, one) (end, second, two) =
      let once = gives_once entry other from to end first second in
      rw (once.0) (ap (λ l. other ∷ l)
      (entries_once end entries others (rw (once.1) at one) two))
