-- What the words give: a name with a kind, and what is shown of its value and of its items.
use Rattle.std.specs.Prelude.{◌≡◌, ℕ, List, [], map, string_bytes}
use Rattle.std.specs.{Float.binary64, Str.chars, declared.string.String.String}
use Rattle.interpolator.specs.Views.{Shown, decimal_number, nothing_implemented, shown_as_value}
use Rattle.interpolator.specs.Views.{float_number, signed_number, some_text}
use Rattle.interpolator.specs.declared.Bits.TheVariants.{B128}
use Rattle.words.specs.Words.{Assignment, text, number, decimal, float, list, IsGood, Means}
use Rattle.words.specs.{Items.items_of, Lists.texts_show, declared.Kind.Kind}
use Rattle.words.specs.declared.Kind.TheVariants as kinds
use Rattle.catalogue.specs.{Firsts.IsFirstWithout, declared.entries.Object.Object}

-- a name with a kind, what its value shows, and what its items show
abbrev pub Showing : Type 0
Showing = (List ℕ × Kind) × (Shown × List Shown)

-- that of an object
abbrev pub shown_of : Object → Showing
shown_of object = (
  (object.name.now, object.kind),
  (shown_as_value object.value, map shown_as_value object.items.items),
)

-- that of an assignment: only a list has items, and its value shows nothing
abbrev pub shown_by : Assignment → Showing
shown_by (text name value) = ((name, kinds.Text), (some_text (chars value), []))
shown_by (number name value) = ((name, kinds.Number), (signed_number value B128, []))
shown_by (decimal name value) =
    ((name, kinds.Decimal), (decimal_number value.units value.scale, []))
shown_by (float name value) = ((name, kinds.Float), (float_number binary64 value, []))
shown_by (list name items) =
    ((name, kinds.List), (nothing_implemented, texts_show (items_of items)))

-- a word gives an object: it shows what the word means
abbrev pub Gives : List ℕ → Object → Type 0
Gives word object =
    (assignment : Assignment) × Means word assignment × (shown_of object ≡ shown_by assignment)

-- the first of some words that gives nothing
abbrev pub IsFirstBad : {Y : Type 0} → List (String Y) → List ℕ → Type 0
IsFirstBad words bad = IsFirstWithout IsGood (map string_bytes words) bad

-- some word gives an object
abbrev pub IsGiven : Object → Type 0
IsGiven object = (word : List ℕ) × Gives word object
