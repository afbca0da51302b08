-- The fields of a line as values: which are what their columns want, and what their views are.
-- Fields are bytes.
use Rattle.std.specs.Prelude.{◌≡◌, ◌⊎◌, ⊤, ℕ, ◌+◌, pos, Bool, true, false, List, [], ◌∷◌, Option}
use Rattle.std.specs.Prelude.{None, Some, slice_get}
use Rattle.std.specs.{Borrow.Bor, Float.Ieee.Float, Str.trim}
use Rattle.interpolator.specs.Slots.{Slots, empty_slots, with_debug_display, with_float}
use Rattle.interpolator.specs.{DecimalTexts.Spells, declared.Decimal.Decimal, declared.View.View}
use Rattle.interpolator.specs.declared.View.TheVariants as forms
use Rattle.words.specs.Words.{IsFloat}
use Rattle.merge.specs.declared.columns.Kind.{Kind}
use Rattle.merge.specs.declared.columns.Kind.TheVariants as kinds

-- a field is what its column wants: any is a text, and but for white space around it a number is
-- spelled as the library's `Decimal::parse` reads it, and a float as std reads one
abbrev pub Fits : Kind → List ℕ → Type 0
Fits kinds.Text field = ⊤
Fits kinds.Number field = (value : Decimal) × Spells (trim field) value
Fits kinds.Float field = (value : Float) × IsFloat (trim field) value

-- a view is that of a field in a column
abbrev pub Shows : Kind → List ℕ → View → Type 0
Shows kinds.Text field view = (text : Bor (List ℕ)) × (view ≡ forms.Text text) × (text.now ≡ field)
Shows kinds.Number field view = (value : Decimal) × Spells (trim field) value
    × (view ≡ forms.Decimal value.units value.scale)
Shows kinds.Float field view = (value : Float) × IsFloat (trim field) value
    × (view ≡ forms.Float value)

-- views are those of the fields of some columns
abbrev pub AreShown : List Kind → (fields : List (List ℕ)) → List View → Type 0
AreShown [] [] [] = ⊤
AreShown (kind ∷ more) (field ∷ fields) (view ∷ views) =
    Shows kind field view × AreShown more fields views
AreShown _ _ _ = ⊥

-- the first column, of some that are numbered from here on, whose field is not what it wants
abbrev pub IsMisfit : ℕ → List Kind → (fields : List (List ℕ)) → Option ℕ → Type 0
IsMisfit number [] [] found = found ≡ None
IsMisfit number (kind ∷ more) (field ∷ fields) found =
    (Fits kind field × IsMisfit (number + 1) more fields found)
    ⊎ (¬ Fits kind field × (found ≡ Some number))
IsMisfit _ _ _ _ = ⊥

-- a field is there, and empty
abbrev pub is_empty_field : Option (List ℕ) → Bool
is_empty_field (Some []) = true
is_empty_field _ = false

-- the field at a place, from 0, is empty
abbrev pub is_empty_at : ℕ → (fields : List (List ℕ)) → Bool
is_empty_at place fields = is_empty_field (slice_get fields place)

-- a view as a value: a number or a float fills the slots of debug, display and exponents, a text
-- those of debug and display
abbrev pub as_value : View → Slots View
as_value (forms.Decimal units scale) = with_float empty_slots (forms.Decimal units scale)
as_value (forms.Float value) = with_float empty_slots (forms.Float value)
as_value view = with_debug_display empty_slots view

-- an example of the fields of a column, of one of a text and one of a number; a float can be
-- formatted under the same traits as a number
abbrev pub example_by : (text number : View) → Kind → Slots View
example_by text number kinds.Text = as_value text
example_by text number kinds.Number = as_value number
example_by text number kinds.Float = as_value number

-- those of the examples `a` and 0
abbrev pub example_slots : Kind → Slots View
example_slots kind = example_by (forms.Character 97) (forms.Decimal (pos 0) 0) kind
