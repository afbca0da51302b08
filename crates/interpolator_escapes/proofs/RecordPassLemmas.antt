-- What is read of a literal and of a value of a record of CSV.
use Rattle.std.proofs.Common.{◌≡◌, ℕ, Bool, true, false, List, [], ◌∷◌, ◌++◌, refl, ap, sym, ◌∙◌}
use Rattle.std.proofs.Common.{Option, Some, None, Ok, append-nil, append_assoc, arith, flat_map}
use Rattle.std.proofs.Common.{map, if◌then◌else◌, not}
use Rattle.std.proofs.lemmas.List.{map-append}
use Rattle.interpolator_render.specs.Texts.{ViewText, has_text, has_no_text, has_failed, view_text}
use Rattle.interpolator_render.specs.Views.{Shown, signed_number, unsigned_number, truth_value}
use Rattle.interpolator_render.specs.Views.{decimal_number, float_number, one_character, some_text}
use Rattle.interpolator_render.specs.Views.{plain_text, nothing_implemented, failure}
use Rattle.interpolator_render.specs.declared.{view.Trait.Trait, view.Trait.TheVariants.Debug}
use Rattle.interpolator_render.specs.declared.view.Spec.{Spec}
use Rattle.interpolator_syntax.specs.{Places.text_of, Faults.Fault}
use Rattle.interpolator_syntax.specs.declared.piece_kind.PieceKind.{PieceKind}
use Rattle.interpolator_syntax.specs.declared.piece_kind.PieceKind.TheVariants as kinds
use Rattle.interpolator_eval.specs.Meaning.Meanings.{Meaning, chain, or_fault, view_means}
use Rattle.interpolator_eval.specs.Meaning.Meanings.{and_closed}
use Rattle.interpolator_escapes.specs.Csv.{CsvState, field_start, bare, quoted, quote_seen}
use Rattle.interpolator_escapes.specs.Csv.{csv_step, ends_field}
use Rattle.interpolator_escapes.specs.Fields.{field_text, field_view, field_value}
use Rattle.interpolator_escapes.specs.Parts.{Part, literal, value}
use Rattle.interpolator_escapes.specs.RecordFormats.{Spot, in_state, field_end, after_literal}
use Rattle.interpolator_escapes.specs.RecordFormats.{covers, same_state, fields_read, past_value}
use Rattle.interpolator_escapes.specs.RecordFormats.{misplaced_at}
use Rattle.interpolator_escapes.specs.{Escapes.csv_escape, FormatParts.view_parts, Plain.AllPlain}
use Rattle.interpolator_escapes.specs.{Plain.is_bare, Readers.content, Readers.structure_of}
use Rattle.interpolator_escapes.specs.{Records.quoted_field, Wholes.escaped_text}
use Rattle.interpolator_escapes.proofs.FieldLemmas.{After, Reads, reads-append, inner_state}
use Rattle.interpolator_escapes.proofs.FieldLemmas.{inner_read, quoted_state, quoted_read}
use Rattle.interpolator_escapes.proofs.FieldLemmas.{plain_same, first_state, first_read, sep_same}
use Rattle.interpolator_escapes.proofs.PlainLemmas.{PlainView, plain_debug}
use Rattle.interpolator_escapes.proofs.ReaderLemmas.{state-append, structure-append}
use Rattle.interpolator_escapes.proofs.ReaderLemmas.{structure-content}
use Rattle.interpolator_escapes.proofs.{FormatLemmas.text_of_placed_at, WholeLemmas.plain_shown}

-- ---- parts

-- where a reader is after parts
abbrev pub fields_end : CsvState → List Part → CsvState
fields_end s [] = s
fields_end s (literal cs ∷ parts) = fields_end (After s cs) parts
fields_end s (value cs ∷ parts) = fields_end (past_value s) parts

pub end-append : (s : CsvState) (ps qs : List Part)
    → fields_end s (ps ++ qs) ≡ fields_end (fields_end s ps) qs
end-append s [] qs = refl
end-append s (literal cs ∷ ps) qs = end-append (After s cs) ps qs
end-append s (value cs ∷ ps) qs = end-append (past_value s) ps qs

pub fields-append : (s : CsvState) (ps qs : List Part)
    → fields_read s (ps ++ qs) ≡ fields_read s ps ++ fields_read (fields_end s ps) qs
fields-append s [] qs = refl
fields-append s (literal cs ∷ ps) qs =
    ap (λ ts. Reads s cs ++ ts) (fields-append (After s cs) ps qs)
    ∙ sym (append_assoc (Reads s cs) (fields_read (After s cs) ps) _)
fields-append s (value cs ∷ ps) qs =
    ap (λ ts. map content cs ++ ts) (fields-append (past_value s) ps qs)
    ∙ sym (append_assoc (map content cs) (fields_read (past_value s) ps) _)

-- ---- states

-- a reader may be here, where a record is: behind a whole field, anywhere but between quotes
abbrev pub Under : CsvState → Spot → Type 0
Under s (in_state t) = s ≡ t
Under s (field_end place) = s ≡ quoted → ⊥

abbrev pub Marks : CsvState → List ℕ → List ℕ
Marks s cs = structure_of (Reads s cs)

-- a text, and that with empty values, take a record from s to t, and are read as these parts
pub record Passes (s t : Spot) (xs ys : List ℕ) (ps : List Part) : Type 0 where
  pub first : (c : CsvState) → Under c s → Under (After c xs) t
  pub second : (c : CsvState) → Under c s → Under (After c ys) t
  pub third : (c : CsvState) → Under c s → Under (fields_end c ps) t
  pub tokens : (c d : CsvState) → Under c s → Under d s → Reads c xs ≡ fields_read d ps
  pub marks : (c d : CsvState) → Under c s → Under d s
      → Marks c ys ≡ structure_of (fields_read d ps)

pub marks-append : (c : CsvState) (xs ys : List ℕ)
    → Marks c (xs ++ ys) ≡ Marks c xs ++ Marks (After c xs) ys
marks-append c xs ys =
    rw (reads-append c xs ys) (structure-append (Reads c xs) (Reads (After c xs) ys))

pub passes_both : (s t u : Spot) (xs ys vs ws : List ℕ) (ps qs : List Part) → Passes s t xs ys ps
    → Passes t u vs ws qs → Passes s u (xs ++ vs) (ys ++ ws) (ps ++ qs)
passes_both s t u xs ys vs ws ps qs h j = record {
  first = λ c b. rw (state-append csv_step c xs vs) (j.first (After c xs) (h.first c b));
  second = λ c b. rw (state-append csv_step c ys ws) (j.second (After c ys) (h.second c b));
  third = λ c b. rw (end-append c ps qs) (j.third (fields_end c ps) (h.third c b));
  tokens = λ c d b k. reads-append c xs vs
      ∙ rw (
        h.tokens c d b k,
        j.tokens (After c xs) (fields_end d ps) (h.first c b) (h.third d k),
      ) (sym (fields-append d ps qs));
  marks = λ c d b k. marks-append c ys ws
      ∙ rw (
        h.marks c d b k,
        j.marks (After c ys) (fields_end d ps) (h.second c b) (h.third d k),
        fields-append d ps qs,
      ) (sym (structure-append (fields_read d ps) (fields_read (fields_end d ps) qs)));
}

pub passes_nothing : (s : Spot) → Passes s s [] [] []
passes_nothing s = record {
  first = λ c b. b;
  second = λ c b. b;
  third = λ c b. b;
  tokens = λ c d b k. refl;
  marks = λ c d b k. refl;
}

-- where readers may be here, they may be there
pub same_is : (a b : CsvState) → same_state a b ≡ true → b ≡ a
same_is field_start field_start e = refl
same_is bare bare e = refl
same_is quoted quoted e = refl
same_is quote_seen quote_seen e = refl
same_is field_start bare e = absurd (cc)
same_is field_start quoted e = absurd (cc)
same_is field_start quote_seen e = absurd (cc)
same_is bare field_start e = absurd (cc)
same_is bare quoted e = absurd (cc)
same_is bare quote_seen e = absurd (cc)
same_is quoted field_start e = absurd (cc)
same_is quoted bare e = absurd (cc)
same_is quoted quote_seen e = absurd (cc)
same_is quote_seen field_start e = absurd (cc)
same_is quote_seen bare e = absurd (cc)
same_is quote_seen quoted e = absurd (cc)

pub outside : (s : CsvState) → not (same_state quoted s) ≡ true → s ≡ quoted → ⊥
outside quoted e k = absurd (cc)
outside field_start e k = absurd (cc)
outside bare e k = absurd (cc)
outside quote_seen e k = absurd (cc)

pub covered : (t s : Spot) (c : CsvState) → covers t s ≡ true → Under c s → Under c t
covered (in_state t) (in_state s) c e b = b ∙ same_is t s e
covered (in_state t) (field_end place) c e b = absurd (cc)
covered (field_end place) (in_state s) c e b = λ k. outside s e (sym b ∙ k)
covered (field_end there) (field_end here) c e b = b

pub passes_to : (s t u : Spot) (xs ys : List ℕ) (ps : List Part) → covers u t ≡ true
    → Passes s t xs ys ps → Passes s u xs ys ps
passes_to s t u xs ys ps e h = record {
  first = λ c b. covered u t (After c xs) e (h.first c b);
  second = λ c b. covered u t (After c ys) e (h.second c b);
  third = λ c b. covered u t (fields_end c ps) e (h.third c b);
  tokens = h.tokens;
  marks = h.marks;
}

-- ---- literals

-- a text that is read in one way from here
pub passes_literal : (s t : Spot) (cs : List ℕ)
    → ((c : CsvState) → Under c s → Under (After c cs) t)
    → ((c d : CsvState) → Under c s → Under d s → Reads c cs ≡ Reads d cs)
    → Passes s t cs cs (literal cs ∷ [])
passes_literal s t cs to reads = record {
  first = to;
  second = to;
  third = to;
  tokens = λ c d b k. reads c d b k ∙ sym (append-nil (Reads d cs));
  marks = λ c d b k. ap structure_of (reads c d b k ∙ sym (append-nil (Reads d cs)));
}

pub behind_field : (place c : ℕ) (cs : List ℕ) (b : Bool) (t : Spot) → ends_field c ≡ b
    → (if b then Ok (in_state (After quote_seen (c ∷ cs))) else misplaced_at place) ≡ Ok t
    → Passes (field_end place) t (c ∷ cs) (c ∷ cs) (literal (c ∷ cs) ∷ [])
behind_field place c cs false t e h = absurd (cc)
behind_field place c cs true t e h =
    let same : in_state (After quote_seen (c ∷ cs)) ≡ t = cc in
    rw (← same) (passes_literal (field_end place) (in_state (After quote_seen (c ∷ cs))) (c ∷ cs)
    (λ s b. rw (sep_same s c e b) refl)
    (λ s u b k. rw (sep_same s c e b, sep_same u c e k) refl))

pub literal_passes : (s t : Spot) (cs : List ℕ) → after_literal s cs ≡ Ok t
    → Passes s t cs cs (literal cs ∷ [])
literal_passes (in_state s) t cs h =
    let same : in_state (After s cs) ≡ t = cc in
    rw (← same) (passes_literal (in_state s) (in_state (After s cs)) cs (λ c b. rw b refl)
    (λ c d b k. rw (b, k) refl))
literal_passes (field_end place) t [] h =
    let same : field_end place ≡ t = cc in
    rw (← same) (passes_literal (field_end place) (field_end place) [] (λ c b. b)
    (λ c d b k. refl))
literal_passes (field_end place) t (c ∷ cs) h =
    behind_field place c cs (ends_field c) t refl h

-- ---- meanings

-- a meaning without fault, and one with empty values, which has none either
abbrev pub Same : Spot → Spot → Meaning → Meaning → List Part → Type 0
Same s t m k ps =
    m.fault ≡ None → (k.fault ≡ None) × Passes s t (text_of m.text) (text_of k.text) ps

pub faulty : (s t : Spot) (f : Fault) (m k : Meaning) (ps : List Part) → m.fault ≡ Some f
    → Same s t m k ps
faulty s t f m k ps e none = absurd (cc)

pub joined_by : (s t u : Spot) (m k n l : Meaning) (ps qs : List Part) (o : Option Fault)
    → m.fault ≡ o → Same s t m k ps → Same t u n l qs
    → Same s u (or_fault o m n) (chain k l) (ps ++ qs)
joined_by s t u m k n l ps qs (Some f) e h j none = absurd (cc)
joined_by s t u m k n l ps qs None e h j none =
    let x = h e in
    let y = j none in
    rw x.0 (
      y.0,
      rw (
        map-append (λ (x : ℕ × ℕ). x.0) m.text n.text,
        map-append (λ (x : ℕ × ℕ). x.0) k.text l.text,
      )
          (passes_both s t u (text_of m.text) (text_of k.text) (text_of n.text) (text_of l.text)
          ps qs x.1 y.1),
    )

pub same_joined : (s t u : Spot) (m k n l : Meaning) (ps qs : List Part) → Same s t m k ps
    → Same t u n l qs → Same s u (chain m n) (chain k l) (ps ++ qs)
same_joined s t u m k n l ps qs h j = joined_by s t u m k n l ps qs m.fault refl h j

pub closed_same : (s t : Spot) (kind : PieceKind) (q : ℕ) (m k : Meaning) (ps : List Part)
    → Same s t m k ps → Same s t (and_closed kind q m) (and_closed kind q k) ps
closed_same s t kinds.Unclosed q m k ps h = λ none. absurd (grind arith)
closed_same s t kind q m k ps h = h

-- ---- values

-- a text where a value may stand, as what comes back
pub view_same : (s u : Spot) (t : Trait) (q : ℕ) (xs ds : List ℕ)
    → Passes s u xs [] (value ds ∷ [])
    → Same s u (view_means t q (has_text xs)) (view_means t q (has_text [])) (value ds ∷ [])
view_same s u t q xs ds h none = (refl, rw (text_of_placed_at q xs) h)

pub content_marks : (cs : List ℕ) → structure_of (map content cs ++ []) ≡ []
content_marks cs = ap structure_of (append-nil (map content cs)) ∙ structure-content cs

-- between quotes
pub inner_passes : (ds : List ℕ)
    → Passes (in_state quoted) (in_state quoted) (flat_map csv_escape ds) [] (value ds ∷ [])
inner_passes ds = record {
  first = λ c b. rw b (inner_state ds);
  second = λ c b. b;
  third = λ c b. rw b refl;
  tokens = λ c d b k. rw b (inner_read ds ∙ sym (append-nil (map content ds)));
  marks = λ c d b k. sym (content_marks ds);
}

-- where a field begins
pub field_passes : (place : ℕ) (xs ds : List ℕ) → (After field_start xs ≡ quoted → ⊥)
    → Reads field_start xs ≡ map content ds
    → Passes (in_state field_start) (field_end place) xs [] (value ds ∷ [])
field_passes place xs ds outside reads = record {
  first = λ c b. rw b outside;
  second = λ c b e. absurd (cc);
  third = λ c b. rw b (λ e. absurd (cc));
  tokens = λ c d b k. rw b (reads ∙ sym (append-nil (map content ds)));
  marks = λ c d b k. sym (content_marks ds);
}

pub text_passes : (place : ℕ) (text : List ℕ)
    → Passes (in_state field_start) (field_end place) (quoted_field text) [] (value text ∷ [])
text_passes place text =
    field_passes place (quoted_field text) text (λ e. let s = quoted_state text in absurd (cc))
    (quoted_read text)

pub plain_outside : (cs : List ℕ) → AllPlain cs → After field_start cs ≡ quoted → ⊥
plain_outside [] h e = absurd (cc)
plain_outside (c ∷ cs) h e = let s = first_state c cs h in absurd (cc)

pub plain_passes : (place : ℕ) (cs : List ℕ) → AllPlain cs
    → Passes (in_state field_start) (field_end place) (flat_map csv_escape cs) [] (value cs ∷ [])
plain_passes place cs h =
    rw (plain_same cs h) (field_passes place cs cs (plain_outside cs h) (first_read cs h))

-- what a value means, and what it means if it is empty
abbrev pub Shows : Spot → Spot → Trait → Spec → ℕ → Shown → List Part → Type 0
Shows s u t spec q shown ps =
    Same s u (view_means t q (view_text shown t spec)) (view_means t q (has_text [])) ps

pub text_shows : (place : ℕ) (t : Trait) (spec : Spec) (q : ℕ) (text : List ℕ)
    → Shows (in_state field_start) (field_end place) t spec q (plain_text (quoted_field text))
    (value text ∷ [])
text_shows place t spec q text =
    rw (plain_shown (quoted_field text) t spec)
    (view_same (in_state field_start) (field_end place) t q (quoted_field text) text
    (text_passes place text))

pub plain_shows : (place : ℕ) (t : Trait) (spec : Spec) (q : ℕ) (v : ViewText) → PlainView v
    → Shows (in_state field_start) (field_end place) t spec q (escaped_text csv_escape v)
    (view_parts v)
unfolding view_text
plain_shows place t spec q (has_text cs) h =
    view_same (in_state field_start) (field_end place) t q (flat_map csv_escape cs) cs
    (plain_passes place cs h)
plain_shows place t spec q has_no_text h = λ none. absurd (cc)
plain_shows place t spec q has_failed h = λ none. absurd (cc)

pub inner_shows : (t : Trait) (spec : Spec) (q : ℕ) (v : ViewText)
    → Shows (in_state quoted) (in_state quoted) t spec q (escaped_text csv_escape v) (view_parts v)
unfolding view_text
inner_shows t spec q (has_text cs) =
    view_same (in_state quoted) (in_state quoted) t q (flat_map csv_escape cs) cs (inner_passes cs)
inner_shows t spec q has_no_text = λ none. absurd (cc)
inner_shows t spec q has_failed = λ none. absurd (cc)

pub number_shows : (place : ℕ) (t : Trait) (spec : Spec) (q : ℕ) (shown : Shown)
    → field_text shown ≡ None → is_bare spec ≡ true
    → Shows (in_state field_start) (field_end place) t spec q
    (escaped_text csv_escape (view_text shown Debug spec)) (view_parts (view_text shown Debug spec))
number_shows place t spec q shown none h =
    plain_shows place t spec q (view_text shown Debug spec) (plain_debug shown spec none h)

pub field_shows : (place : ℕ) (t : Trait) (spec : Spec) (q : ℕ) (shown : Shown)
    → is_bare spec ≡ true
    → Shows (in_state field_start) (field_end place) t spec q
    (field_view (field_text shown) shown spec) (view_parts (field_value shown spec))
field_shows place t spec q (some_text text) h = text_shows place t spec q text
field_shows place t spec q (plain_text text) h = text_shows place t spec q text
field_shows place t spec q (one_character c) h = text_shows place t spec q (c ∷ [])
field_shows place t spec q (signed_number z bits) h =
    number_shows place t spec q (signed_number z bits) refl h
field_shows place t spec q (unsigned_number n) h =
    number_shows place t spec q (unsigned_number n) refl h
field_shows place t spec q (truth_value truth) h =
    number_shows place t spec q (truth_value truth) refl h
field_shows place t spec q (decimal_number units scale) h =
    number_shows place t spec q (decimal_number units scale) refl h
field_shows place t spec q (float_number format x) h =
    number_shows place t spec q (float_number format x) refl h
field_shows place t spec q nothing_implemented h =
    number_shows place t spec q nothing_implemented refl h
field_shows place t spec q failure h = number_shows place t spec q failure refl h
