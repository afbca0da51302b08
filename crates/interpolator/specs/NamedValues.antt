-- What named values stand for, and what a row of them finds under a name.
use Rattle.std.specs.Prelude.{ℕ, List, [], ◌∷◌, map, min, take, Option, Some, None, option_map}
use Rattle.std.specs.Prelude.{slice_get}
use Rattle.std.specs.{Borrow.Bor, Str.encode_utf8_all}
use Rattle.interpolator_render.specs.Views.{Shown, shown_as_value}
use Rattle.interpolator_render.specs.declared.{view.Trait.Trait, view.View.View, view.Spec.Spec}
use Rattle.interpolator_eval.specs.Slots.{Slots, slots_of, empty_slots, with_iter, with_trait}
use Rattle.interpolator_eval.specs.{Contexts.last_under, declared.slots.Formattable.Formattable}
use Rattle.interpolator.specs.declared.values.NamedValue.{NamedValue}
use Rattle.interpolator.specs.{declared.values.NamedView.NamedView, declared.values.Values.Values}

module _ {X : Type 0} where
  -- the tree with the slots of these traits filled
  abbrev pub with_traits : List Trait → Slots X → X → Slots X
  with_traits [] tree value = tree
  with_traits (t ∷ ts) tree value = with_traits ts (with_trait t tree value) value

-- the tree of a list, if there is one, or else that of a value in the slots of these traits
abbrev pub list_or_value : Option (Bor (List (Formattable View))) → List Trait → View → Slots View
list_or_value (Some items) traits view = with_iter empty_slots (map slots_of items.now)
list_or_value None traits view = with_traits traits empty_slots view

-- what a named value stands for
abbrev pub named_slots : NamedValue → Slots View
named_slots value = list_or_value value.items value.traits.now value.view

-- a named value as a pair
abbrev pub pair_of : NamedValue → Bor (List ℕ) × Slots View
pair_of value = (value.name, named_slots value)

-- a named view beside the items of a list, or none, as a pair
abbrev pub pair_with : NamedView → Option (Bor (List (Formattable View))) → Bor (List ℕ) × Slots View
pair_with named items = (named.name, list_or_value items named.traits.now named.view)

-- the named values of a row, as pairs: those before its length, which is at most sixteen
abbrev pub pairs_of : Values → List (Bor (List ℕ) × Slots View)
pairs_of values = map pair_of (take (min values.len 16) values.entries)

-- what a row of named values has under a name
abbrev pub found_by_values : Values → List ℕ → Option (Slots View)
found_by_values values name = last_under (pairs_of values) (encode_utf8_all name)

-- what a view shows under each trait and spec
abbrev pub view_shows : View → Trait → Spec → Shown
view_shows view wanted spec = shown_as_value view

-- what is at a position of a row, if the row reaches it
abbrev pub named_at : Values → ℕ → Option (Slots View)
named_at values k = option_map (λ pair. pair.1) (slice_get (pairs_of values) k)
