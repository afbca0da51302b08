-- Whole values of JSON leave its reader between strings.
use Rattle.std.proofs.Common.{◌≡◌, ℕ, Bool, true, false, List, [], ◌∷◌, ◌++◌, refl, ◌∙◌, ap, Option}
use Rattle.std.proofs.Common.{Some, None, append_assoc, flat_map, map, inl, inr, if◌then◌else◌}
use Rattle.std.specs.Float.{float_is_finite}
use Rattle.interpolator_render.specs.declared.view.Trait.TheVariants.{Debug, Display}
use Rattle.interpolator_render.specs.Texts.{ViewText, has_text, view_text}
use Rattle.interpolator_render.specs.Views.{Shown, signed_number, unsigned_number, truth_value}
use Rattle.interpolator_render.specs.Views.{decimal_number, float_number, one_character, some_text}
use Rattle.interpolator_render.specs.Views.{plain_text, nothing_implemented, failure}
use Rattle.interpolator_render.specs.{declared.view.Spec.Spec, declared.view.Trait.Trait}
use Rattle.interpolator_syntax.specs.SpecTexts.{plain_spec}
use Rattle.interpolator_escapes.specs.FormatParts.{view_parts, string_parts, whole_parts}
use Rattle.interpolator_escapes.specs.Json.{JsonState, between, in_string, after_slash, in_code}
use Rattle.interpolator_escapes.specs.Json.{json_step, is_json_place}
use Rattle.interpolator_escapes.specs.Parts.{Part, value, MayStand}
use Rattle.interpolator_escapes.specs.Readers.{content, structure_of, state_after, read}
use Rattle.interpolator_escapes.specs.Wholes.{is_whole, json_null, json_string, whole_text}
use Rattle.interpolator_escapes.specs.Wholes.{whole_view}
use Rattle.interpolator_escapes.specs.{Escapes.json_escape, Formats.Stays, Plain.is_bare}
use Rattle.interpolator_escapes.specs.declared.escape.Escape.TheVariants.{Json}
use Rattle.interpolator_escapes.proofs.FormatPartLemmas.{Leads, view_leads}
use Rattle.interpolator_escapes.proofs.KeepLemmas.{json_keeps, json_plain}
use Rattle.interpolator_escapes.proofs.PlainLemmas.{PlainView, plain_view}
use Rattle.interpolator_escapes.proofs.ReaderLemmas.{state-append, read-append, structure-append}
use Rattle.interpolator_escapes.proofs.ReaderLemmas.{structure-content, value_state, value_read}
use Rattle.interpolator_escapes.proofs.{FormatLemmas.view_quiet, WholeLemmas.plain_shown}

-- ---- places

-- a place of what is not under debug is one of what is displayed
pub json_inner : (s : JsonState) (t : Trait) (spec : Spec) → is_whole Json t ≡ false
    → is_json_place s t spec ≡ true → is_json_place s Display plain_spec ≡ true
json_inner between t spec w h = let no : false ≡ true = rw w at h in absurd (cc)
json_inner in_string t spec w h = refl
json_inner after_slash t spec w h = absurd (cc)
json_inner (in_code left n) t spec w h = absurd (cc)

-- a place of debug is between strings, under a spec by which numbers are those of JSON
record IsBetween (s : JsonState) (spec : Spec) : Type 0 where
  here : s ≡ between
  bare : is_bare spec ≡ true

json_whole : (s : JsonState) (t : Trait) (spec : Spec) → is_whole Json t ≡ true
    → is_json_place s t spec ≡ true → IsBetween s spec
json_whole between t spec w h = record { here = refl; bare = rw w at h }
json_whole in_string t spec w h = let no : false ≡ true = rw w at h in absurd (cc)
json_whole after_slash t spec w h = absurd (cc)
json_whole (in_code left n) t spec w h = absurd (cc)

-- there plain characters may stand
plain_may : (v : ViewText) (cs : List ℕ) → PlainView v → v ≡ has_text cs
    → MayStand is_json_place between cs
plain_may v cs h e = inr (refl, rw e at h)

-- ---- structure

abbrev After : JsonState → List ℕ → JsonState
After s cs = state_after json_step s cs

abbrev Marks : JsonState → List ℕ → List ℕ
Marks s cs = structure_of (read json_step s cs)

-- a string is read as its characters between quotes
string_state : (text : List ℕ) → After between (json_string text) ≡ between
string_state text =
    state-append json_step in_string (flat_map json_escape text) (34 ∷ [])
    ∙ ap (λ s. After s (34 ∷ []))
    (value_state json_step is_json_place json_escape json_keeps json_plain in_string text (inl refl))

string_read : (text : List ℕ)
    → read json_step between (json_string text) ≡ content 34 ∷ (map content text ++ content 34 ∷ [])
string_read text =
    let inside = flat_map json_escape text in
    ap (λ ts. content 34 ∷ ts) (read-append json_step in_string inside (34 ∷ [])
    ∙ rw (
      value_state json_step is_json_place json_escape json_keeps json_plain in_string text (inl refl),
      value_read json_step is_json_place json_escape json_keeps json_plain in_string text (inl refl),
    ) refl)

pub string_back : (text rest : List ℕ)
    → read json_step between (json_string text ++ rest)
    ≡ content 34 ∷ (map content text ++ content 34 ∷ read json_step between rest)
string_back text rest =
    let whole = json_string text in
    read-append json_step between whole rest
    ∙ ap (λ ts. ts ++ read json_step (After between whole) rest) (string_read text)
    ∙ ap (λ s. content 34 ∷ ((map content text ++ content 34 ∷ []) ++ read json_step s rest))
    (string_state text)
    ∙ ap (λ ts. content 34 ∷ ts)
    (append_assoc (map content text) (content 34 ∷ []) (read json_step between rest))

string_marks : (text : List ℕ) → Marks between (json_string text) ≡ []
string_marks text =
    ap structure_of (string_read text)
    ∙ structure-append (map content text) (content 34 ∷ [])
    ∙ rw (structure-content text) refl

string_stays : (text : List ℕ) → Stays json_step between (json_string text)
string_stays text = (string_state text, string_marks text)

float_stays : (b : Bool) (text : List ℕ) → (if b then None else Some json_null) ≡ Some text
    → Stays json_step between text
float_stays true text e = absurd (cc)
float_stays false text e = let same : json_null ≡ text = cc in rw (← same) (refl, refl)

same_string : (inner text : List ℕ) → Some (json_string inner) ≡ Some text
    → Stays json_step between text
same_string inner text e =
    let same : json_string inner ≡ text = cc in rw (← same) (string_stays inner)

text_stays : (shown : Shown) (text : List ℕ) → whole_text shown ≡ Some text
    → Stays json_step between text
text_stays (some_text inner) text e = same_string inner text e
text_stays (plain_text inner) text e = same_string inner text e
text_stays (one_character c) text e = same_string (c ∷ []) text e
text_stays (float_number format x) text e = float_stays (float_is_finite x) text e
text_stays (signed_number z bits) text e = absurd (cc)
text_stays (unsigned_number n) text e = absurd (cc)
text_stays (truth_value truth) text e = absurd (cc)
text_stays (decimal_number units scale) text e = absurd (cc)
text_stays nothing_implemented text e = absurd (cc)
text_stays failure text e = absurd (cc)

view_stays : (shown : Shown) (t : Trait) (spec : Spec) (cs : List ℕ) (o : Option (List ℕ))
    → whole_text shown ≡ o → is_bare spec ≡ true
    → view_text (whole_view o shown spec) t spec ≡ has_text cs → Stays json_step between cs
view_stays shown t spec cs (Some text) o h e =
    let shown_is : has_text text ≡ has_text cs = rw (plain_shown text t spec) at e in
    let same : text ≡ cs = cc in
    rw (← same) (text_stays shown text o)
view_stays shown t spec cs None o h e =
    view_quiet json_step is_json_place json_escape json_keeps json_plain
    (view_text shown Debug spec) t spec cs between
    (λ ds d. plain_may (view_text shown Debug spec) ds (plain_view shown spec o h) d) e

pub whole_stays : (shown : Shown) (t : Trait) (spec : Spec) (cs : List ℕ) (s : JsonState)
    → is_whole Json t ≡ true → is_json_place s t spec ≡ true
    → view_text (whole_view (whole_text shown) shown spec) t spec ≡ has_text cs
    → Stays json_step s cs
whole_stays shown t spec cs s w h e =
    let at = json_whole s t spec w h in
    rw at.here (view_stays shown t spec cs (whole_text shown) refl at.bare e)

-- ---- parts

abbrev Here : List Part → Type 0
Here ps = Leads json_step is_json_place between between ps

string_leads : (text : List ℕ) → Here (string_parts text)
string_leads text = record { held = (inl refl, tt); end = refl }

debug_leads : (shown : Shown) (spec : Spec) → whole_text shown ≡ None → is_bare spec ≡ true
    → Here (view_parts (view_text shown Debug spec))
debug_leads shown spec w h =
    view_leads json_step is_json_place between (view_text shown Debug spec)
    (λ ds d. plain_may (view_text shown Debug spec) ds (plain_view shown spec w h) d)

float_leads : (shown : Shown) (spec : Spec) (b : Bool)
    → whole_text shown ≡ (if b then None else Some json_null) → is_bare spec ≡ true
    → Here (if b then view_parts (view_text shown Debug spec) else value json_null ∷ [])
float_leads shown spec true w h = debug_leads shown spec w h
float_leads shown spec false w h =
    record { held = (inr (refl, (refl, (refl, (refl, (refl, tt))))), tt); end = refl }

parts_lead : (shown : Shown) (spec : Spec) → is_bare spec ≡ true → Here (whole_parts shown spec)
parts_lead (some_text text) spec h = string_leads text
parts_lead (plain_text text) spec h = string_leads text
parts_lead (one_character c) spec h = string_leads (c ∷ [])
parts_lead (float_number format x) spec h =
    float_leads (float_number format x) spec (float_is_finite x) refl h
parts_lead (signed_number z bits) spec h = debug_leads (signed_number z bits) spec refl h
parts_lead (unsigned_number n) spec h = debug_leads (unsigned_number n) spec refl h
parts_lead (truth_value truth) spec h = debug_leads (truth_value truth) spec refl h
parts_lead (decimal_number units scale) spec h =
    debug_leads (decimal_number units scale) spec refl h
parts_lead nothing_implemented spec h = debug_leads nothing_implemented spec refl h
parts_lead failure spec h = debug_leads failure spec refl h

pub whole_leads : (shown : Shown) (s : JsonState) (t : Trait) (spec : Spec)
    → is_whole Json t ≡ true → is_json_place s t spec ≡ true
    → Leads json_step is_json_place s s (whole_parts shown spec)
whole_leads shown s t spec w h =
    let at = json_whole s t spec w h in rw at.here (parts_lead shown spec at.bare)
