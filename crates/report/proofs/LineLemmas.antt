-- Rows that resemble the sample of a format, and lines one after the other.
use Rattle.std.proofs.Common.{◌≡◌, ◌∙◌, refl, ap, ℕ, ◌+◌, ◌<◌, suc, arith, length, get_or, Bool}
use Rattle.std.proofs.Common.{true, false, List, [], ◌∷◌, ◌++◌, map, take, take-suc, append-nil}
use Rattle.std.proofs.Common.{append_assoc, Option, None, Some}
use Rattle.std.proofs.{lemmas.List.map-append, lemmas.List.map_more, lemmas.Str.encodes-append}
use Rattle.std.specs.{Char.encode_utf8, Str.encode_utf8_all}
use Rattle.interpolator.specs.Meaning.{Resembling.HasText, Resembling.ResemblesSlot}
use Rattle.interpolator.specs.Meaning.{Samples.is_failure, Samples.shows_nothing}
use Rattle.interpolator.specs.declared.{Spec.Spec, Trait.Trait, Trait.TheVariants.Debug}
use Rattle.interpolator.specs.declared.{Trait.TheVariants.Display, View.View}
use Rattle.interpolator.specs.{Prepared.Rows.PreparedFormat, Slots.slot_at, Slots.slots_of}
use Rattle.interpolator.specs.{Slots.values_of, Texts.view_text, Views.Shown, Views.one_character}
use Rattle.interpolator.specs.{Views.shown_as_value, Writers.AppendsWithin, Writers.Written}
use Rattle.interpolator_laws.specs.SamplePairs.{RowResembles}
use Rattle.records.specs.declared.table.Record.{Record}
use Rattle.report.specs.Lines.{AreLines, AreShown, IsLine, IsShown, IsShownAs, PutsLines, Row}
use Rattle.report.specs.Lines.{Sample, as_value, example, kinds_in, names_in, shown_character}
use Rattle.report.specs.Lines.{view_shows}
use Rattle.report.specs.declared.totals.Cell.TheVariants.{Empty, Large, Number, Other}
use Rattle.report.specs.{declared.lines.Named.Named, declared.totals.Cell.Cell}

-- ---- rows

-- what is shown has a text if what shows nothing under the same traits, and fails alike, has one
abbrev ByKind : Type 0
ByKind = (x y : Shown) (t : Trait) (spec : Spec) → shows_nothing x t ≡ shows_nothing y t
    → is_failure x ≡ is_failure y → HasText (view_text x t spec) → HasText (view_text y t spec)

-- a view shows something under both traits of the sample, and does not fail
record IsSound (view : View) : Type 0 where
  debug : shows_nothing (one_character 97) Debug ≡ shows_nothing (shown_as_value view) Debug
  display : shows_nothing (one_character 97) Display ≡ shows_nothing (shown_as_value view) Display
  whole : is_failure (one_character 97) ≡ is_failure (shown_as_value view)

-- so each of its slots resembles that of the example
slot_alike : ByKind → (view : View) → IsSound view → (t : Trait)
    → ResemblesSlot view_shows view_shows t (slot_at t (values_of (as_value view)))
    (slot_at t (values_of example))
slot_alike alike view sound Debug =
    λ spec. alike (one_character 97) (shown_as_value view) Debug spec sound.debug sound.whole
slot_alike alike view sound Display =
    λ spec. alike (one_character 97) (shown_as_value view) Display spec sound.display sound.whole
slot_alike alike view sound _ = tt

-- a text and a number are such views
shown_sound : (is_numeric : Bool) (entry : List ℕ) (cell : Cell) (view : View)
    → IsShownAs is_numeric entry cell view → IsSound view
shown_sound true entry (Number number) view h =
    rw h (record { debug = refl; display = refl; whole = refl })
shown_sound true entry Empty view h =
    rw (h.1) (record { debug = refl; display = refl; whole = refl })
shown_sound true entry Large view h =
    rw (h.1) (record { debug = refl; display = refl; whole = refl })
shown_sound true entry Other view h =
    rw (h.1) (record { debug = refl; display = refl; whole = refl })
shown_sound false entry cell view h =
    rw (h.1) (record { debug = refl; display = refl; whole = refl })

-- so the views of entries resemble the sample
pub rows_alike : ByKind → (row : Row) (sample : Sample) (names : List (List ℕ)) (kinds : List Bool)
    (entries : List (List ℕ)) (views : List View) → map slots_of row ≡ map as_value views
    → map (λ pair. slots_of pair.1) sample ≡ map (λ _. example) names
    → length names ≡ length kinds → AreShown kinds entries views
    → RowResembles view_shows view_shows row sample
rows_alike alike row [] names ks es vs e d l h = tt
rows_alike alike row (q ∷ qs) [] ks es vs e d l h = absurd (cc)
rows_alike alike row (q ∷ qs) (n ∷ ns) [] es vs e d l h = absurd (omega arith)
rows_alike alike [] (q ∷ qs) (n ∷ ns) (k ∷ ks) (x ∷ xs) (v ∷ vs) e d l h = absurd (cc)
rows_alike alike (r ∷ row) (q ∷ qs) (n ∷ ns) (k ∷ ks) (x ∷ xs) (v ∷ vs) e d l h =
    let mine : slots_of r ≡ as_value v = cc in
    let theirs : slots_of q.1 ≡ example = cc in (
      rw (mine, theirs) (slot_alike alike v (shown_sound k x (h.0).0 v (h.0).2)),
      rows_alike alike row qs ns ks xs vs (cc) (cc) (omega arith) h.1,
    )
rows_alike alike row (q ∷ qs) (n ∷ ns) (k ∷ ks) _ _ e d l h = absurd h

-- ---- entries

-- what one entry more is shown as
shown_more : (kinds : List Bool) (entries : List (List ℕ)) (views : List View) (kind : Bool)
    (entry : List ℕ) (view : View) → AreShown kinds entries views → IsShown kind entry view
    → AreShown (kinds ++ (kind ∷ [])) (entries ++ (entry ∷ [])) (views ++ (view ∷ []))
shown_more [] [] [] kind entry view all one = (one, all)
shown_more (k ∷ ks) (e ∷ es) (v ∷ vs) kind entry view all one =
    (all.0, shown_more ks es vs kind entry view all.1 one)
shown_more _ _ _ kind entry view all one = absurd all

pub shown_step : {A B : Type 0} (f : A → Bool) (g : B → List ℕ) (columns : List A)
    (entries : List B) (n : ℕ) (c : A) (entry : B) (views more : List View) (view : View)
    → n < length columns → n < length entries → entry ≡ get_or entries n entry
    → AreShown (map f (take n columns)) (map g (take n entries)) views
    → IsShown (f (get_or columns n c)) (g entry) view → more ≡ views ++ (view ∷ [])
    → AreShown (map f (take (n + 1) columns)) (map g (take (n + 1) entries)) more
shown_step f g columns entries n c entry views more view some_columns some_entries here all one e =
    rw (e, map_more f columns n c some_columns, map_more g entries n entry some_entries, ← here)
    (shown_more (map f (take n columns)) (map g (take n entries)) views _ _ view all one)

-- one character more
pub controls_step : (shown more cs : List ℕ) (c d : ℕ)
    → shown ≡ encode_utf8_all (map shown_character cs) → d ≡ shown_character c
    → more ≡ shown ++ encode_utf8 d → more ≡ encode_utf8_all (map shown_character (cs ++ (c ∷ [])))
controls_step shown more cs c d so_far is e =
    rw (
      e,
      so_far,
      is,
      map-append shown_character cs (c ∷ []),
      encodes-append (map shown_character cs) (shown_character c ∷ []),
      append-nil (encode_utf8 (shown_character c)),
    ) refl

-- ---- columns

pub same_lengths : (columns : List Named) → length (names_in columns) ≡ length (kinds_in columns)
same_lengths [] = refl
same_lengths (column ∷ columns) = ap suc (same_lengths columns)

pub examples_of : (columns : List Named)
    → map (λ _. example) columns ≡ map (λ _. example) (names_in columns)
examples_of [] = refl
examples_of (column ∷ columns) = ap (λ values. example ∷ values) (examples_of columns)

-- ---- lines

-- a text that a writer took is appended
pub appended : (limit after : Option ℕ) (old new : Written) (text : List ℕ)
    → AppendsWithin limit after old text new → new.text ≡ old.text ++ text
appended None after old new text h = h.appended
appended (Some most) after old new text h = h.0.appended

-- the line of one record more
lines_more : (format : PreparedFormat) (end : List ℕ) (columns : List Named)
    (records others : List Record) (text more : List ℕ)
    → AreLines format end columns records text → AreLines format end columns others more
    → AreLines format end columns (records ++ others) (text ++ more)
lines_more format end columns [] others text more so_far one = rw so_far one
lines_more format end columns (r ∷ records) others text more (line, rest, is, so_far, all) one = (
  line,
  rest ++ more,
  is,
  lines_more format end columns records others rest more so_far one,
  rw (all, append_assoc line (end ++ rest) more, append_assoc end rest more) refl,
)

pub lines_step : (format : PreparedFormat) (end : List ℕ) (columns : List Named)
    (records : List Record) (n : ℕ) (r : Record) (old text more : List ℕ)
    → n < length records → r ≡ get_or records n r
    → PutsLines format end columns (take n records) old text
    → PutsLines format end columns (r ∷ []) text more
    → PutsLines format end columns (take (n + 1) records) old more
lines_step format end columns records n r old text more within here so_far one =
    let next : n + 1 ≡ suc n = omega arith in (
      so_far.0 ++ one.0,
      rw (next, take-suc records n r within, ← here) (lines_more format end columns
          (take n records) (r ∷ []) so_far.0 one.0 so_far.1 one.1),
      one.2 ∙ ap (λ t. t ++ one.0) so_far.2 ∙ append_assoc old so_far.0 one.0,
    )
