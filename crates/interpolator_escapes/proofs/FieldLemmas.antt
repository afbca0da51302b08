-- A whole field of CSV, read back.
use Rattle.std.proofs.Common.{◌≡◌, ℕ, Bool, true, false, List, [], ◌∷◌, ◌++◌, refl, ap, ◌∙◌, arith}
use Rattle.std.proofs.Common.{flat_map, map, inl, append-nil, ◌==◌, if◌then◌else◌, Some}
use Rattle.std.proofs.lemmas.Bool.Decides.{nat_tests}
use Rattle.interpolator_render.specs.{declared.view.Spec.Spec, declared.view.Trait.Trait}
use Rattle.interpolator_render.specs.{Texts.has_text, Texts.view_text, Views.Shown}
use Rattle.interpolator_escapes.specs.Csv.{CsvState, field_start, bare, quoted, quote_seen}
use Rattle.interpolator_escapes.specs.Csv.{csv_step, is_csv_place, ends_field}
use Rattle.interpolator_escapes.specs.Readers.{Token, content, structure, state_after, read}
use Rattle.interpolator_escapes.specs.{Escapes.csv_escape, Fields.field_text, Fields.field_view}
use Rattle.interpolator_escapes.specs.{Plain.AllPlain, Plain.is_plain, RecordFormats.without_quotes}
use Rattle.interpolator_escapes.specs.{Records.fields_of, Records.quoted_field}
use Rattle.interpolator_escapes.proofs.KeepLemmas.{csv_keeps, csv_plain, plain_other}
use Rattle.interpolator_escapes.proofs.ReaderLemmas.{state-append, read-append, value_state}
use Rattle.interpolator_escapes.proofs.ReaderLemmas.{value_read}
use Rattle.interpolator_escapes.proofs.WholeLemmas.{plain_shown}

abbrev pub After : CsvState → List ℕ → CsvState
After s cs = state_after csv_step s cs

-- what is read, without the quotes around fields
abbrev pub Reads : CsvState → List ℕ → List Token
Reads s cs = without_quotes (read csv_step s cs)

-- ---- quotes around fields

unquoted_structure : (b : Bool) (c : ℕ) (xs ys zs : List Token) → zs ≡ xs ++ ys
    → (if b then zs else structure c ∷ zs) ≡ (if b then xs else structure c ∷ xs) ++ ys
unquoted_structure true c xs ys zs e = e
unquoted_structure false c xs ys zs e = ap (λ ts. structure c ∷ ts) e

pub unquoted-append : (xs ys : List Token)
    → without_quotes (xs ++ ys) ≡ without_quotes xs ++ without_quotes ys
unquoted-append [] ys = refl
unquoted-append (content c ∷ xs) ys = ap (λ ts. content c ∷ ts) (unquoted-append xs ys)
unquoted-append (structure c ∷ xs) ys =
    unquoted_structure (c == 34) c (without_quotes xs) (without_quotes ys) _ (unquoted-append xs ys)

pub unquoted-content : (cs : List ℕ) → without_quotes (map content cs) ≡ map content cs
unquoted-content [] = refl
unquoted-content (c ∷ cs) = ap (λ ts. content c ∷ ts) (unquoted-content cs)

-- they are in no field
pub same_fields : (ts : List Token) → fields_of (without_quotes ts) ≡ fields_of ts
same_fields [] = refl
same_fields (content c ∷ ts) = rw (same_fields ts) refl
same_fields (structure c ∷ ts) = grind (arith, nat_tests, same_fields ts)

pub reads-append : (s : CsvState) (xs ys : List ℕ)
    → Reads s (xs ++ ys) ≡ Reads s xs ++ Reads (After s xs) ys
reads-append s xs ys =
    ap without_quotes (read-append csv_step s xs ys)
    ∙ unquoted-append (read csv_step s xs) (read csv_step (After s xs) ys)

-- ---- a text between quotes

pub inner_state : (text : List ℕ) → After quoted (flat_map csv_escape text) ≡ quoted
inner_state text =
    value_state csv_step is_csv_place csv_escape csv_keeps csv_plain quoted text (inl refl)

pub inner_read : (text : List ℕ) → Reads quoted (flat_map csv_escape text) ≡ map content text
inner_read text =
    ap without_quotes
    (value_read csv_step is_csv_place csv_escape csv_keeps csv_plain quoted text (inl refl))
    ∙ unquoted-content text

pub quoted_state : (text : List ℕ) → After field_start (quoted_field text) ≡ quote_seen
quoted_state text =
    state-append csv_step quoted (flat_map csv_escape text) (34 ∷ [])
    ∙ ap (λ s. After s (34 ∷ [])) (inner_state text)

pub quoted_read : (text : List ℕ) → Reads field_start (quoted_field text) ≡ map content text
quoted_read text =
    reads-append quoted (flat_map csv_escape text) (34 ∷ [])
    ∙ rw (inner_state text, inner_read text) (append-nil (map content text))

pub field_shown : (shown : Shown) (t : Trait) (spec : Spec) (text : List ℕ)
    → field_text shown ≡ Some text
    → view_text (field_view (field_text shown) shown spec) t spec ≡ has_text text
field_shown shown t spec text e = rw e (plain_shown text t spec)

-- ---- a text of plain characters, as it is

plain_ends : (c : ℕ) → is_plain c ≡ true → ends_field c ≡ false
plain_ends c p =
    rw (
      plain_other c 44 (c == 44) refl refl p,
      plain_other c 13 (c == 13) refl refl p,
      plain_other c 10 (c == 10) refl refl p,
    ) refl

plain_step : (c : ℕ) → is_plain c ≡ true → csv_step bare c ≡ (bare, content c ∷ [])
plain_step c p = rw (plain_ends c p) refl

plain_first : (c : ℕ) → is_plain c ≡ true → csv_step field_start c ≡ (bare, content c ∷ [])
plain_first c p = rw (plain_other c 34 (c == 34) refl refl p, plain_ends c p) refl

pub plain_same : (cs : List ℕ) → AllPlain cs → flat_map csv_escape cs ≡ cs
plain_same [] h = refl
plain_same (c ∷ cs) h =
    rw (plain_other c 34 (c == 34) refl refl h.0) (ap (λ ds. c ∷ ds) (plain_same cs h.1))

plain_state : (cs : List ℕ) → AllPlain cs → After bare cs ≡ bare
plain_state [] h = refl
plain_state (c ∷ cs) h = rw (plain_step c h.0) (plain_state cs h.1)

plain_read : (cs : List ℕ) → AllPlain cs → Reads bare cs ≡ map content cs
plain_read [] h = refl
plain_read (c ∷ cs) h =
    rw (plain_step c h.0) (ap (λ ts. content c ∷ ts) (plain_read cs h.1))

-- it is all of a field, or nothing
pub first_state : (c : ℕ) (cs : List ℕ) → AllPlain (c ∷ cs) → After field_start (c ∷ cs) ≡ bare
first_state c cs h = rw (plain_first c h.0) (plain_state cs h.1)

pub first_read : (cs : List ℕ) → AllPlain cs → Reads field_start cs ≡ map content cs
first_read [] h = refl
first_read (c ∷ cs) h =
    rw (plain_first c h.0) (ap (λ ts. content c ∷ ts) (plain_read cs h.1))

-- ---- behind a field

pub sep_same : (s : CsvState) (c : ℕ) → ends_field c ≡ true → (s ≡ quoted → ⊥)
    → csv_step s c ≡ csv_step quote_seen c
sep_same field_start c e h = grind (arith, nat_tests)
sep_same bare c e h = grind (arith, nat_tests)
sep_same quote_seen c e h = refl
sep_same quoted c e h = absurd (h refl)
