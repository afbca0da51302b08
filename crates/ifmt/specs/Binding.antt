-- What the words of a command line put under their names, one after the other.
use Rattle.std.specs.Prelude.{◌≡◌, ◌≢◌, ℕ, List, [], map, Option, None, Some, string_bytes}
use Rattle.std.specs.{Option.unwrap_or, Float.binary64, List.FoldsTo, Str.chars}
use Rattle.std.specs.declared.string.String.{String}
use Rattle.interpolator.specs.Slots.{Slots, slots_of, empty_slots, with_debug_display, with_integer}
use Rattle.interpolator.specs.Slots.{with_float, with_iter}
use Rattle.interpolator.specs.Views.{Shown, shown_as_value, some_text, signed_number}
use Rattle.interpolator.specs.Views.{decimal_number, float_number, nothing_implemented}
use Rattle.interpolator.specs.{declared.View.View, declared.Bits.TheVariants.B128}
use Rattle.words.specs.declared.Word.TheVariants.{Text, Number, Decimal as DecimalWord}
use Rattle.words.specs.declared.Word.TheVariants.{Float as FloatWord, List as ListWord, Bad}
use Rattle.words.specs.Words.{Assignment, text, number, decimal, float, list, Means, Classifies}
use Rattle.words.specs.{declared.Word.Word, Items.items_of, Lists.item_slots, Lists.texts_show}
use Rattle.ifmt.specs.{declared.binding.Object.Object, declared.binding.Entry.Entry}

-- the name of an assignment, by its characters
abbrev pub assigned_name : Assignment → List ℕ
assigned_name (text name value) = chars name
assigned_name (number name value) = chars name
assigned_name (decimal name value) = chars name
assigned_name (float name value) = chars name
assigned_name (list name items) = chars name

-- what the object of a `Word` shows: its text, its whole number at 128 bits, its decimal or its
-- float of 64 bits; a list has no such object
abbrev pub object_shows : Word → Shown
object_shows (Text name value) = some_text (chars value.now)
object_shows (Number name value) = signed_number value B128
object_shows (DecimalWord name value) = decimal_number value.units value.scale
object_shows (FloatWord name value) = float_number binary64 value
object_shows (ListWord name items) = nothing_implemented
object_shows Bad = nothing_implemented

-- what the objects of a list's items show: their texts; another `Word` has no items
abbrev pub items_show : Word → List Shown
items_show (Text name value) = []
items_show (Number name value) = []
items_show (DecimalWord name value) = []
items_show (FloatWord name value) = []
items_show (ListWord name items) = texts_show (items_of items.now)
items_show Bad = []

-- a word, classified, with objects that show its value
pub record HasObject (word : List ℕ) (object : Object) : Type 0 where
  pub classified : Classifies word object.word
  pub value : shown_as_value object.value ≡ object_shows object.word
  pub items : map shown_as_value object.items.items ≡ items_show object.word

module _ {X : Type 0} where
  -- the slots under one name were changed, from empty ones if it had none, and the other names
  -- stayed
  pub record Changes (old : List ℕ → Option (Slots X)) (name : List ℕ) (change : Slots X → Slots X)
      (new : List ℕ → Option (Slots X)) : Type 0 where
    pub here : new name ≡ Some (change (unwrap_or (old name) empty_slots))
    pub others : (other : List ℕ) → other ≢ name → new other ≡ old other

  -- a text word fills the slots of debug and display of its name, a number word those of an
  -- integer, a decimal or a float word those of a float, a list word that of the items
  abbrev pub Fills : (old : List ℕ → Option (Slots X)) → Word → (object : X)
      → (items : List (Slots X)) → (new : List ℕ → Option (Slots X)) → Type 0
  Fills old (Text name value) object items new =
      Changes old (chars name.now) (λ slots. with_debug_display slots object) new
  Fills old (Number name value) object items new =
      Changes old (chars name.now) (λ slots. with_integer slots object) new
  Fills old (DecimalWord name value) object items new =
      Changes old (chars name.now) (λ slots. with_float slots object) new
  Fills old (FloatWord name value) object items new =
      Changes old (chars name.now) (λ slots. with_float slots object) new
  Fills old (ListWord name value) object items new =
      Changes old (chars name.now) (λ slots. with_iter slots items) new
  Fills old Bad object items new = new ≡ old

-- the entry lends what the object has, and its items are filled with the object's
pub record Lends (object : Object) (entry : Entry) : Type 0 where
  pub same_word : entry.word ≡ object.word
  pub same_value : entry.value.now ≡ object.value
  pub filled : map slots_of entry.items.items ≡ item_slots object.items.items

-- what an assignment makes of the slots under its name: an object that shows a text fills those of
-- debug and display, one that shows a whole number those of an integer, one that shows a decimal
-- or a float those of a float, and objects that show the items of a list are the items in the slot
-- of a list, each in its slots of debug and display
abbrev pub Merges : Assignment → (before after : Slots View) → Type 0
Merges (text name value) before after = (object : View)
    × (shown_as_value object ≡ some_text (chars value)) × (after ≡ with_debug_display before object)
Merges (number name value) before after = (object : View)
    × (shown_as_value object ≡ signed_number value B128) × (after ≡ with_integer before object)
Merges (decimal name value) before after = (object : View)
    × (shown_as_value object ≡ decimal_number value.units value.scale)
    × (after ≡ with_float before object)
Merges (float name value) before after = (object : View)
    × (shown_as_value object ≡ float_number binary64 value) × (after ≡ with_float before object)
Merges (list name value) before after = (objects : List View)
    × (map shown_as_value objects ≡ texts_show (items_of value))
    × (after ≡ with_iter before (item_slots objects))

-- the word's assignment was merged into the slots under its name, and the other names stayed
abbrev pub Binds : (old : List ℕ → Option (Slots View)) → (word : List ℕ)
    → (new : List ℕ → Option (Slots View)) → Type 0
Binds old word new = (assignment : Assignment) × Means word assignment
    × (change : Slots View → Slots View)
    × ((before : Slots View) → Merges assignment before (change before))
    × Changes old (assigned_name assignment) change new

-- the words, in their order, bind what is found under each name, and nothing was there before
abbrev pub AreBound : {Z : Type 0} → List (String Z) → (finds : List ℕ → Option (Slots View))
    → Type 0
AreBound words finds =
    FoldsTo (λ old word new. Binds old (string_bytes word) new) (λ _. None) words finds
