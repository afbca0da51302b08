-- Text of several parts of a format: the place of each of its bytes, and what a refusal means.
use Rattle.std.proofs.Common.{◌≡◌, ◌∙◌, refl, sym, ap, arith, ℕ, ◌+◌, ◌-◌, ◌<◌, ◌≤◌, Bool, true}
use Rattle.std.proofs.Common.{false, List, [], ◌∷◌, ◌++◌, length, drop, get_or, None, Some, inl}
use Rattle.std.proofs.Common.{inr, IsSome, Option, subst, length-append}
use Rattle.std.proofs.lemmas.List.{append-nil, append_assoc, drop_more, map-append}
use Rattle.std.proofs.lemmas.Str.{chars-append, chars-nil, len_utf8_bounds}
use Rattle.std.specs.Prelude.{◌==◌, if◌then◌else◌, string_bytes, unwrap_or}
use Rattle.std.specs.{List.All, Char.len_utf8, Str.chars, Str.IsUtf8}
use Rattle.interpolator_render.specs.Writers.{Written}
use Rattle.interpolator_syntax.specs.{Places.Placed, Places.placed_from, Places.size}
use Rattle.interpolator_syntax.specs.{Places.text_of, Faults.Answer}
use Rattle.interpolator_syntax.proofs.CharacterLemmas.{size-chars}
use Rattle.interpolator_eval.specs.declared.evaluate.sink.WriteFault.TheVariants.{MissingTraitImpl}
use Rattle.interpolator_eval.specs.declared.evaluate.sink.WriteFault.TheVariants.{Fmt}
use Rattle.interpolator_eval.specs.{Meaning.Meanings.text_alone, Meaning.Outcomes.Outcome}
use Rattle.interpolator_eval.specs.Meaning.Sinks.{write_fault_answer}
use Rattle.interpolator_eval.specs.declared.evaluate.sink.WriteFault.{WriteFault}
use Rattle.interpolator_eval.proofs.MeaningLemmas.PlacedLemmas.{placed_from-append}
use Rattle.interpolator_prepared.specs.StoredSteps.{parts_size, joined_place, placed_by}
use Rattle.interpolator_prepared.specs.StoredSteps.{joined_placed, joined_step, joined_text}
use Rattle.interpolator_prepared.specs.StoredSteps.{moved_fault, texts_placed}
use Rattle.interpolator_prepared.specs.{Programs.text_step, declared.step.JoinedText.JoinedText}
use Rattle.interpolator_prepared.specs.declared.step.Part.{Part}
use Rattle.interpolator_pieces.specs.{Stored.detail_of, StoredMeanings.stored_part}
use Rattle.interpolator_pieces.specs.declared.piece.Piece.{Piece}

-- ---- the place of a byte

-- one more part leaves the places of the bytes before it
pub place_kept : (ps : List Part) (x : Part) (o : ℕ) → o < parts_size ps
    → joined_place (ps ++ (x ∷ [])) o ≡ joined_place ps o
place_kept [] x o h = absurd (omega (arith, h))
place_kept (p ∷ ps) x o h = grind (arith, place_kept ps x (o - (p.to - p.from)))

-- and its own bytes are at its place
pub place_added : (ps : List Part) (x : Part) (o : ℕ) → o < x.to - x.from
    → joined_place (ps ++ (x ∷ [])) (parts_size ps + o) ≡ x.from + o
place_added [] x o h = grind (arith, h)
place_added (p ∷ ps) x o h = grind (arith, place_added ps x o h)

-- ---- characters at other places

module _ (f g : ℕ → ℕ) (n : ℕ) (same : (o : ℕ) → o < n → f o ≡ g o) where
  pub same_places : (p : ℕ) (cs : List ℕ) → p + size cs ≤ n
      → placed_by f (placed_from p cs) ≡ placed_by g (placed_from p cs)
  same_places p [] h = refl
  same_places p (c ∷ cs) h =
      let (least, most) = len_utf8_bounds c in
      let here : p < n = omega arith in
      let rest : p + len_utf8 c + size cs ≤ n = omega arith in
      ap (λ q. (c, q) ∷ placed_by f (placed_from (p + len_utf8 c) cs)) (same p here)
      ∙ ap (λ xs. (c, g p) ∷ xs) (same_places (p + len_utf8 c) cs rest)

pub moved_places : (f : ℕ → ℕ) (q from : ℕ) (cs : List ℕ)
    → ((o : ℕ) → o < size cs → f (q + o) ≡ from + o)
    → placed_by f (placed_from q cs) ≡ placed_from from cs
moved_places f q from [] h = refl
moved_places f q from (c ∷ cs) h =
    let (least, most) = len_utf8_bounds c in
    let here : f q ≡ from = grind (arith, h 0 (omega arith)) in
    ap (λ p. (c, p) ∷ placed_by f (placed_from (q + len_utf8 c) cs)) here
    ∙ ap (λ xs. (c, from) ∷ xs)
    (moved_places f (q + len_utf8 c) (from + len_utf8 c) cs
    (λ o l. grind (arith, h (len_utf8 c + o) (omega arith))))

-- ---- one more part

joined_is : (b : Bool) (xs ds : Placed)
    → (if b then Some (text_step xs) else None) ≡ Some (text_step ds) → (b ≡ true) × (xs ≡ ds)
joined_is true xs ds h = (refl, cc)
joined_is false xs ds h = absurd (cc)

-- numbers that a test finds equal
pub equal_numbers : (a b : ℕ) → (a == b) ≡ true → a ≡ b
equal_numbers a b h = grind arith

pub number_equals : (a b : ℕ) → a ≡ b → (a == b) ≡ true
number_equals a b h = grind arith

module _ (ps : List Part) (bs more : List ℕ) (from to : ℕ) (cs : List ℕ) (utf8 : IsUtf8 bs)
    (is : chars more ≡ cs) (sized : length more ≡ to - from) (fit : size cs ≡ to - from) where
  abbrev Added : List Part
  Added = ps ++ (record { from = from; to = to } ∷ [])

  sizes : (ps : List Part)
      → parts_size (ps ++ (record { from = from; to = to } ∷ [])) ≡ parts_size ps + (to - from)
  sizes [] = omega arith
  sizes (p ∷ ps) = omega (arith, sizes ps)

  placed_added : parts_size ps ≡ length bs
      → joined_placed Added (bs ++ more) ≡ joined_placed ps bs ++ placed_from from cs
  placed_added whole =
      let x : Part = record { from = from; to = to } in
      let long : size (chars bs) ≡ parts_size ps = size-chars bs utf8 ∙ sym whole in
      let f = joined_place Added in
      let front : placed_by f (placed_from 0 (chars bs)) ≡ joined_placed ps bs =
      same_places f (joined_place ps) (parts_size ps) (place_kept ps x) 0 (chars bs)
      (omega (arith, long)) in
      let back : placed_by f (placed_from (0 + size (chars bs)) cs) ≡ placed_from from cs =
      moved_places f (0 + size (chars bs)) from cs
      (λ o l. ap f (let e : 0 + size (chars bs) + o ≡ parts_size ps + o = omega (arith, long) in e)
      ∙ place_added ps x o (omega (arith, l, fit))) in
      ap (λ ds. placed_by f (placed_from 0 ds))
      (chars-append bs more utf8 ∙ ap (λ ds. chars bs ++ ds) is)
      ∙ ap (placed_by f) (placed_from-append 0 (chars bs) cs)
      ∙ map-append (λ y. (y.0, f y.1)) (placed_from 0 (chars bs))
      (placed_from (0 + size (chars bs)) cs)
      ∙ ap (λ xs. xs ++ placed_by f (placed_from (0 + size (chars bs)) cs)) front
      ∙ ap (λ xs. joined_placed ps bs ++ xs) back

  pub part_added : (ds : Placed) → joined_step ps bs ≡ Some (text_step ds)
      → joined_step Added (bs ++ more) ≡ Some (text_step (ds ++ placed_from from cs))
  part_added ds h =
      let (test, placed) = joined_is (parts_size ps == length bs) (joined_placed ps bs) ds h in
      let whole = equal_numbers (parts_size ps) (length bs) test in
      let longer : length (bs ++ more) ≡ length bs + length more = length-append bs more in
      let all : (parts_size Added == length (bs ++ more)) ≡ true =
      number_equals (parts_size Added) (length (bs ++ more))
      (omega (arith, sizes ps, whole, longer, sized)) in
      rw (all) (ap (λ xs. Some (text_step xs))
      (placed_added whole ∙ ap (λ xs. xs ++ placed_from from cs) placed))

-- ---- a refusal

text_of-placed_by : (f : ℕ → ℕ) (xs : Placed) → text_of (placed_by f xs) ≡ text_of xs
text_of-placed_by f [] = refl
text_of-placed_by f (x ∷ xs) = ap (λ cs. x.0 ∷ cs) (text_of-placed_by f xs)

-- what was written of a text was also written of the same characters at other places
pub placed_written :
    (f : ℕ → ℕ) (xs : Placed) (old new : Written) → Outcome (text_alone xs) old new None
    → Outcome (text_alone (placed_by f xs)) old new None
placed_written f xs old new (inl o) =
    inl (record { all = rw (text_of-placed_by f xs) o.all; reported = o.reported })
placed_written f xs old new (inr (inl o)) = absurd (let e = o.reported in cc)
placed_written f xs old new (inr (inr o)) = absurd (let e = o.reported in cc)

-- and if they were refused, the place is that of the first that was not appended
pub placed_refused :
    (f : ℕ → ℕ) (xs : Placed) (old new : Written) (w : WriteFault)
    → Outcome (text_alone xs) old new (Some (write_fault_answer w))
    → Outcome (text_alone (placed_by f xs)) old new (Some (moved_fault f w))
placed_refused f xs old new w (inl o) = absurd (let e = o.reported in cc)
placed_refused f xs old new (MissingTraitImpl t p) (inr (inl o)) = absurd (let e = o.reported in cc)
placed_refused f xs old new (Fmt p) (inr (inl o)) =
    let e = o.reported in
    let here : p ≡ o.place = cc in
    inr (inl (record {
      front = placed_by f o.front;
      c = o.c;
      place = f o.place;
      back = placed_by f o.back;
      split = ap (placed_by f) o.split
          ∙ map-append (λ y. (y.0, f y.1)) o.front ((o.c, o.place) ∷ o.back);
      appended = rw (text_of-placed_by f o.front) o.appended;
      flag = o.flag;
      none_after_refusal = λ r. text_of-placed_by f o.front ∙ o.none_after_refusal r;
      same_origin = o.same_origin;
      over = o.over;
      reported = ap (λ q. Some (moved_fault f (Fmt q))) here;
    }))
placed_refused f xs old new (MissingTraitImpl t p) (inr (inr o)) = absurd (let e = o.reported in cc)
placed_refused f xs old new (Fmt p) (inr (inr o)) = absurd (let e = o.reported in cc)

-- joined text that was written, or refused
module _ (ps : List Part) (bs text : List ℕ) (old new : Written) (same : text ≡ bs) where
  pub joined_writes : Outcome (text_alone (placed_from 0 (chars text))) old new None
      → Outcome (text_alone (joined_placed ps bs)) old new None
  joined_writes o =
      rw (← same) (placed_written (joined_place ps) (placed_from 0 (chars text)) old new o)

  pub joined_refused : (w : WriteFault) (answer : Answer) (qs : List Part)
      → answer ≡ moved_fault (joined_place qs) w → qs ≡ ps
      → Outcome (text_alone (placed_from 0 (chars text))) old new (Some (write_fault_answer w))
      → Outcome (text_alone (joined_placed ps bs)) old new (Some answer)
  joined_refused w answer qs reported parts o =
      rw (reported, parts, ← same)
      (placed_refused (joined_place ps) (placed_from 0 (chars text)) old new w o)

-- ---- no part, and parts one by one

pub empty_joined : (ps : List Part) (bs : List ℕ) → ps ≡ [] → bs ≡ []
    → joined_step ps bs ≡ Some (text_step [])
empty_joined ps bs none empty =
    rw (none, empty) (ap (λ cs. Some (text_step (placed_by (joined_place []) (placed_from 0 cs))))
    chars-nil)

-- the text so far stands for characters before those of the pieces that are left
pub record Joins (bs : List ℕ) (whole : Placed) (joined : JoinedText) (left : List Piece)
    : Type 0 where
  pub placed : Placed
  pub is : joined_step joined.parts.items (string_bytes joined.text) ≡ Some (text_step placed)
  pub rest : placed ++ texts_placed bs left ≡ whole

-- what follows from the value that is there
pub with_value : {A P : Type 0} (o : Option A) → IsSome o → ((x : A) → o ≡ Some x → P) → P
with_value None h k = absurd (cc)
with_value (Some x) h k = k x refl

-- what follows if a test holds, and if not
pub on_test : {P : Type 0} (b : Bool) → (b ≡ true → P) → (b ≡ false → P) → P
on_test true holds fails = holds refl
on_test false holds fails = fails refl

module _ (bs : List ℕ) (x : Piece) (xs : List Piece) (fits : IsSome (stored_part bs x)) where
  -- one piece more
  pub joins_more : (whole : Placed) (old new : JoinedText) → Joins bs whole old (x ∷ xs)
      → ((cs : List ℕ) (placed : Placed) → stored_part bs x ≡ Some cs
      → joined_step old.parts.items (string_bytes old.text) ≡ Some (text_step placed)
      → joined_step new.parts.items (string_bytes new.text)
      ≡ Some (text_step (placed ++ placed_from (detail_of x).from cs)))
      → Joins bs whole new xs
  joins_more whole old new j added =
      with_value (stored_part bs x) fits (λ cs part. record {
        placed = j.placed ++ placed_from (detail_of x).from cs;
        is = added cs j.placed part j.is;
        rest = append_assoc j.placed (placed_from (detail_of x).from cs) (texts_placed bs xs)
            ∙ ap (λ ds. j.placed ++ (placed_from (detail_of x).from (unwrap_or ds []) ++ texts_placed bs xs))
            (sym part)
            ∙ j.rest;
      })

-- the next piece of some
pub joins_next : (bs : List ℕ) (whole : Placed) (rest : List Piece) (i : ℕ) (x : Piece) (old new : JoinedText)
    → All (λ piece. IsSome (stored_part bs piece)) rest → i < length rest → x ≡ get_or rest i x
    → Joins bs whole old (drop i rest)
    → ((cs : List ℕ) (placed : Placed) → stored_part bs x ≡ Some cs
    → joined_step old.parts.items (string_bytes old.text) ≡ Some (text_step placed)
    → joined_step new.parts.items (string_bytes new.text)
    ≡ Some (text_step (placed ++ placed_from (detail_of x).from cs)))
    → Joins bs whole new (drop (i + 1) rest)
joins_next bs whole rest i x old new fit l is j added =
    let next : drop i rest ≡ x ∷ drop (i + 1) rest = rw (drop_more rest i x l, ← is) refl in
    joins_more bs x (drop (i + 1) rest) (subst (λ y. IsSome (stored_part bs y)) (sym is) (fit i x l)) whole old new (rw next at j) added

-- a text stands for characters
abbrev pub Stands : JoinedText → Placed → Type 0
Stands x placed = joined_step x.parts.items (string_bytes x.text) ≡ Some (text_step placed)

-- no piece so far, and all
pub joins_none : (bs : List ℕ) (all : List Piece) (joined : JoinedText) (placed : Placed)
    → Stands joined placed → Joins bs (placed ++ texts_placed bs all) joined all
joins_none bs all joined placed is = record { placed = placed; is = is; rest = refl }

pub joins_all : (bs : List ℕ) (whole : Placed) (joined : JoinedText) → Joins bs whole joined []
    → Stands joined whole
joins_all bs whole joined j =
    j.is ∙ ap (λ ds. Some (text_step ds)) (sym (append-nil j.placed) ∙ j.rest)

-- a text that stands for characters has these
pub stands_for : (x : JoinedText) (placed : Placed) → Stands x placed → joined_text x ≡ placed
stands_for x placed h =
    (joined_is (parts_size x.parts.items == length (string_bytes x.text)) (joined_text x) placed h).1

-- a first piece, and those after it
pub first_joined :
    (bs : List ℕ) (x : Piece) (xs : List Piece) (none one all : JoinedText)
    → IsSome (stored_part bs x) → Stands none []
    → ((cs : List ℕ) (placed : Placed) → stored_part bs x ≡ Some cs → Stands none placed
    → Stands one (placed ++ placed_from (detail_of x).from cs))
    → ((placed : Placed) → Stands one placed → Stands all (placed ++ texts_placed bs xs))
    → Stands all (texts_placed bs (x ∷ xs))
first_joined bs x xs none one all fits empty first rest =
    with_value (stored_part bs x) fits (λ cs part.
    let same : placed_from (detail_of x).from cs ++ texts_placed bs xs ≡ texts_placed bs (x ∷ xs) =
    ap (λ o. placed_from (detail_of x).from (unwrap_or o []) ++ texts_placed bs xs) (sym part) in
    rest (placed_from (detail_of x).from cs) (first cs [] part empty)
    ∙ ap (λ ds. Some (text_step ds)) same)
