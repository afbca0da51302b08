-- What is under a name in a map, after names that lend a value or a list were added to it.
use Rattle.std.specs.Prelude.{ℕ, if◌then◌else◌, List, map, Option, Some, None, unwrap_or}
use Rattle.std.specs.{Borrow.Bor, Str.bytes_eq, Str.chars}
use Rattle.interpolator_render.specs.declared.view.Trait.{Trait}
use Rattle.interpolator_eval.specs.Slots.{Slots, slots_of, empty_slots, with_iter}
use Rattle.interpolator_eval.specs.declared.slots.Formattable.{Formattable}
use Rattle.interpolator.specs.{NamedValues.with_traits, declared.lent.Lent.Lent}

module _ {V : Type 0} where
  -- the tree with a list, if there is one, or else with a value in the slots of these traits
  abbrev pub with_held : Option (Bor (List (Formattable V))) → Option (Bor V) → List Trait
      → Slots V → Slots V
  with_held (Some items) value traits tree = with_iter tree (map slots_of items.now)
  with_held None (Some value) traits tree = with_traits traits tree value.now
  with_held None None traits tree = tree

  -- the tree with what is lent
  abbrev pub with_lent : Lent V → Slots V → Slots V
  with_lent lent tree = with_held lent.items lent.value lent.traits.now tree

  -- the name of what is lent
  abbrev pub lent_name : Lent V → List ℕ
  lent_name lent = chars lent.name.now

  -- what is under a name after one was added: if it has this name, what was there and what is lent
  abbrev pub with_added : List ℕ → Lent V → Option (Slots V) → Option (Slots V)
  with_added name lent before =
      if bytes_eq name (lent_name lent) then Some (with_lent lent (unwrap_or before empty_slots))
      else before
