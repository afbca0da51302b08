-- A row of the views of fields resembles the sample.
use Rattle.std.proofs.Common.{◌≡◌, refl, ℕ, ℤ, pos, List, [], ◌∷◌, map}
use Rattle.std.specs.{Borrow.Bor, Float.binary64, Float.Ieee.Float, Str.chars}
use Rattle.interpolator.specs.Meaning.Resembling.{HasText, Resembles, ResemblesSlot}
use Rattle.interpolator.specs.Slots.{slot_at, slots_of, values_of}
use Rattle.interpolator.specs.Views.{Shown, decimal_number, float_number, one_character, some_text}
use Rattle.interpolator.specs.declared.Trait.TheVariants.{Binary, Debug, Display, Iter, LowerHex}
use Rattle.interpolator.specs.declared.Trait.TheVariants.{Octal, UpperHex}
use Rattle.interpolator.specs.{Texts.view_text, declared.Spec.Spec, declared.Trait.Trait}
use Rattle.interpolator.specs.declared.View.{View}
use Rattle.interpolator.specs.declared.View.TheVariants as forms
use Rattle.interpolator.specs.Meaning.Samples.{is_failure, shows_nothing}
use Rattle.interpolator_laws.specs.SamplePairs.{RowResembles}
use Rattle.merge.specs.Values.{AreShown, Shows, as_value, example_slots}
use Rattle.merge.specs.{Letters.Row, Letters.Sample, Letters.view_shows, declared.columns.Kind.Kind}
use Rattle.merge.specs.declared.columns.Kind.TheVariants as kinds

-- what is shown has a text if what shows nothing under the same traits, and fails alike, has one
abbrev ByKind : Type 0
ByKind = (x y : Shown) (t : Trait) (spec : Spec) → shows_nothing x t ≡ shows_nothing y t
    → is_failure x ≡ is_failure y → HasText (view_text x t spec) → HasText (view_text y t spec)

-- so each slot of a text resembles that of the example
text_alike : ByKind → (text : Bor (List ℕ)) (t : Trait) → ResemblesSlot view_shows view_shows t
    (slot_at t (values_of (as_value (forms.Text text))))
    (slot_at t (values_of (as_value (forms.Character 97))))
text_alike alike text Debug =
    λ spec h. alike (one_character 97) (some_text (chars text.now)) Debug spec refl refl h
text_alike alike text Display =
    λ spec h. alike (one_character 97) (some_text (chars text.now)) Display spec refl refl h
text_alike alike text _ = tt

-- and each slot of a number that of its example
number_alike : ByKind → (units : ℤ) (scale : ℕ) (t : Trait)
    → ResemblesSlot view_shows view_shows t
    (slot_at t (values_of (as_value (forms.Decimal units scale))))
    (slot_at t (values_of (as_value (forms.Decimal (pos 0) 0))))
number_alike alike units scale Binary = tt
number_alike alike units scale LowerHex = tt
number_alike alike units scale Octal = tt
number_alike alike units scale UpperHex = tt
number_alike alike units scale Iter = tt
number_alike alike units scale t =
    λ spec h. alike (decimal_number (pos 0) 0) (decimal_number units scale) t spec refl refl h

-- so does each slot of a float
float_alike : ByKind → (value : Float) (t : Trait) → ResemblesSlot view_shows view_shows t
    (slot_at t (values_of (as_value (forms.Float value))))
    (slot_at t (values_of (as_value (forms.Decimal (pos 0) 0))))
float_alike alike value Binary = tt
float_alike alike value LowerHex = tt
float_alike alike value Octal = tt
float_alike alike value UpperHex = tt
float_alike alike value Iter = tt
float_alike alike value t =
    λ spec h. alike (decimal_number (pos 0) 0) (float_number binary64 value) t spec refl refl h

-- so the view of a field resembles the example of its column
view_alike : ByKind → (kind : Kind) (field : List ℕ) (view : View) → Shows kind field view
    → Resembles view_shows view_shows (as_value view) (example_slots kind)
view_alike alike kinds.Text field view h = rw (h.1) (text_alike alike h.0)
view_alike alike kinds.Number field view h = rw (h.2) (number_alike alike h.0.units h.0.scale)
view_alike alike kinds.Float field view h = rw (h.2) (float_alike alike h.0)

-- and the views of the fields of a line resemble the sample
pub rows_alike : ByKind → (row : Row) (sample : Sample) (ks : List Kind) (fs : List (List ℕ))
    (vs : List View) → map slots_of row ≡ map as_value vs
    → map (λ pair. slots_of pair.1) sample ≡ map example_slots ks
    → AreShown ks fs vs → RowResembles view_shows view_shows row sample
rows_alike alike row [] ks fs vs e d h = tt
rows_alike alike row (q ∷ qs) [] fs vs e d h = absurd (cc)
rows_alike alike [] (q ∷ qs) (k ∷ ks) (f ∷ fs) (v ∷ vs) e d h = absurd (cc)
rows_alike alike (x ∷ xs) (q ∷ qs) (k ∷ ks) (f ∷ fs) (v ∷ vs) e d h =
    let mine : slots_of x ≡ as_value v = cc in
    let theirs : slots_of q.1 ≡ example_slots k = cc in
    (rw (mine, theirs) (view_alike alike k f v h.0), rows_alike alike xs qs ks fs vs (cc) (cc) h.1)
rows_alike alike row (q ∷ qs) (k ∷ ks) _ _ e d h = absurd h
