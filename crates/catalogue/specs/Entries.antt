-- Values under names, and as pairs of a context.
use Rattle.std.specs.Prelude.{ℕ, List, Option, map, reverse}
use Rattle.std.specs.{Borrow.Bor, List.find, Option.option_map, Str.bytes_eq, Str.encode_utf8_all}
use Rattle.interpolator.specs.Slots.{Slots, empty_slots, slots_of, with_debug_display, with_float}
use Rattle.interpolator.specs.Slots.{with_integer, with_iter}
use Rattle.interpolator.specs.{declared.Formattable.Formattable, declared.View.View}
use Rattle.words.specs.{Lists.item_slots, declared.Kind.Kind}
use Rattle.words.specs.declared.Kind.TheVariants as kinds
use Rattle.catalogue.specs.{declared.entries.Entry.Entry, declared.entries.Object.Object}

-- a name, and the slots of the value under it
abbrev pub Held : Type 0
Held = List ℕ × Slots View

-- what a list of characters finds: the slots under the last such name
abbrev pub found_by : List Held → List ℕ → Option (Slots View)
found_by held name =
    option_map (λ one. one.1) (find (λ one. bytes_eq (encode_utf8_all name) one.0) (reverse held))

-- the slots that a value of a kind fills: a text those of debug and display, a whole number those
-- of an integer, a decimal or a float those of debug, display and exponents, a list that of its
-- items
abbrev pub slots_by : Kind → View → List (Slots View) → Slots View
slots_by kinds.Text value items = with_debug_display empty_slots value
slots_by kinds.Number value items = with_integer empty_slots value
slots_by kinds.Decimal value items = with_float empty_slots value
slots_by kinds.Float value items = with_float empty_slots value
slots_by kinds.List value items = with_iter empty_slots items

-- what an object holds under its name
abbrev pub held_by : Object → Held
held_by object =
    (object.name.now, slots_by object.kind object.value (item_slots object.items.items))

-- the slots of an entry, and what it holds under its name
abbrev pub entry_slots : Entry → Slots View
entry_slots entry = slots_by entry.kind entry.value.now (map slots_of entry.items.items)

abbrev pub held_by_entry : Entry → Held
held_by_entry entry = (entry.name.now, entry_slots entry)

-- what a pair of a context holds under its name
abbrev pub held_by_pair : Bor (List ℕ) × Formattable View → Held
held_by_pair pair = (pair.0.now, slots_of pair.1)
